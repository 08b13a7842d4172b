-- Replay of a trace: its list of threads is run over the bodies of a script, under the trace's
-- limit, and the run is compared with the trace (this project).
use Rattle.std.specs.Prelude.{◌≡◌, ◌≢◌, ℕ, ◌+◌, List, ◌∷◌, ◌++◌, length}
use Rattle.pct_ask.specs.declared.Deal.{Deal}
use Rattle.pct_ask.specs.declared.event.Event.{Event}
use Rattle.pct_ask.specs.declared.verdict.Verdict.{Verdict}
use Rattle.pct_ask.specs.declared.verdict.Outcome.{Outcome}
use Rattle.pct_ask.specs.declared.verdict.Outcome.TheVariants.{Verdict as Ends, Departed}
use Rattle.pct_ask.specs.Bodies.{Pending}
use Rattle.policy_pick.specs.Plan.{ByList}
use Rattle.turn_book.specs.Posts.{schedule_of}
use Rattle.trace_text.specs.declared.file.TraceFile.{TraceFile}
use Rattle.worker_run.specs.Played.{IsPlayed}
use Rattle.replay_run.specs.declared.answer.Written.{Written}
use Rattle.replay_run.specs.declared.answer.Written.TheVariants.{Event as WrittenEvent}
use Rattle.replay_run.specs.declared.answer.Written.TheVariants.{Verdict as WrittenVerdict}
use Rattle.replay_run.specs.declared.answer.Found.{Found}
use Rattle.replay_run.specs.declared.answer.Found.TheVariants.{Event as FoundEvent, NotEnabled}
use Rattle.replay_run.specs.declared.answer.Found.TheVariants.{Goes, Over}
use Rattle.replay_run.specs.declared.answer.Replayed.{Replayed}
use Rattle.replay_run.specs.declared.answer.Replayed.TheVariants.{Confirmed, Departs}

-- The steps that were made and those that are told agree before this step, and there they are
-- different.
pub record DifferAt (step : ℕ) (made told : List Event) (e f : Event) : Type 0 where
  pub before : List Event
  pub more : List Event
  pub more_told : List Event
  pub made_is : made ≡ before ++ e ∷ more
  pub told_is : told ≡ before ++ f ∷ more_told
  pub number : step ≡ length before + 1
  pub apart : e ≢ f

-- The steps that were made are all told, and this one is told after them.
pub record EndsBefore (step : ℕ) (made told : List Event) (f : Event) : Type 0 where
  pub more_told : List Event
  pub told_is : told ≡ made ++ f ∷ more_told
  pub number : step ≡ length made + 1

-- The same steps were made and are told. The verdict is compared as the step after them.
pub record Agree (step : ℕ) (made told : List Event) : Type 0 where
  pub same : made ≡ told
  pub number : step ≡ length made + 1

-- what was found at a step and what is written there, where they differ first
abbrev pub IsDeparture : List Event → Outcome → List Event → Verdict → ℕ → Found → Written → Type 0
IsDeparture made outcome told verdict step (FoundEvent e) (WrittenEvent f) =
    DifferAt step made told e f
IsDeparture made outcome told verdict step (NotEnabled t) (WrittenEvent f) =
    EndsBefore step made told f × (outcome ≡ Departed t)
IsDeparture made outcome told verdict step (Over v) (WrittenEvent f) =
    EndsBefore step made told f × (outcome ≡ Ends v)
IsDeparture made outcome told verdict step (Over v) (WrittenVerdict w) =
    Agree step made told × (outcome ≡ Ends v) × (verdict ≡ w) × (v ≢ w)
IsDeparture made outcome told verdict step (Goes t) (WrittenVerdict w) =
    Agree step made told × (outcome ≡ Departed t) × (verdict ≡ w)
IsDeparture made outcome told verdict step (Goes t) (WrittenEvent f) = ⊥
IsDeparture made outcome told verdict step (FoundEvent e) (WrittenVerdict w) = ⊥
IsDeparture made outcome told verdict step (NotEnabled t) (WrittenVerdict w) = ⊥

-- What is told where these steps were made with that outcome, and the trace tells those steps and
-- that verdict: it is confirmed where they are the same, and else the first difference.
abbrev pub TellsReply : List Event → Outcome → List Event → Verdict → Replayed → Type 0
TellsReply made outcome told verdict (Confirmed v) =
    (made ≡ told) × (outcome ≡ Ends verdict) × (verdict ≡ v)
TellsReply made outcome told verdict (Departs step found written) =
    IsDeparture made outcome told verdict step found written

-- The trace's threads go one after another over the bodies, under its limit, and what comes of it
-- is compared with the trace.
pub record IsReplay (deal : Deal) (bodies : List Pending) (file : TraceFile) (replayed : Replayed)
    : Type 0 where
  pub made : List Event
  pub outcome : Outcome
  pub played : IsPlayed (ByList (schedule_of file.events)) deal bodies file.header.limit made
      outcome
  pub tells : TellsReply made outcome file.events file.verdict replayed
