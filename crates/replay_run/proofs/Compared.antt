-- What is told of two lists of steps.
use Rattle.std.proofs.Common.{◌≡◌, ℕ, Some, List, ◌∷◌, length, refl, sym, ap, subst, ◌∙◌, arith}
use Rattle.std.proofs.lemmas.List.{length-append}
use Rattle.pct_ask.specs.declared.Deal.{Deal}
use Rattle.pct_ask.specs.declared.event.Event.{Event}
use Rattle.pct_ask.specs.declared.verdict.Verdict.{Verdict}
use Rattle.pct_ask.specs.declared.verdict.Outcome.{Outcome}
use Rattle.pct_ask.specs.declared.verdict.Outcome.TheVariants.{Verdict as Ends}
use Rattle.pct_ask.specs.Bodies.{Pending}
use Rattle.policy_pick.specs.Plan.{Plan, ByPoints, ByList, SpeaksOf}
use Rattle.turn_book.specs.Posts.{schedule_of}
use Rattle.turn_book.proofs.laws.Worlds.{same-cut}
use Rattle.trace_text.specs.declared.file.TraceFile.{TraceFile}
use Rattle.worker_run.specs.Run.{run}
use Rattle.worker_run.specs.Played.{IsPlayed}
use Rattle.worker_run.proofs.laws.OnePlayed.{only-played}
use Rattle.worker_run.proofs.laws.WholeRuns.{run-played}
use Rattle.replay_run.specs.declared.answer.Written.{Written}
use Rattle.replay_run.specs.declared.answer.Written.TheVariants.{Event as WrittenEvent}
use Rattle.replay_run.specs.declared.answer.Written.TheVariants.{Verdict as WrittenVerdict}
use Rattle.replay_run.specs.declared.answer.Found.{Found}
use Rattle.replay_run.specs.declared.answer.Found.TheVariants.{Event as FoundEvent, NotEnabled}
use Rattle.replay_run.specs.declared.answer.Found.TheVariants.{Goes, Over}
use Rattle.replay_run.specs.declared.answer.Replayed.{Replayed}
use Rattle.replay_run.specs.declared.answer.Replayed.TheVariants.{Confirmed, Departs}
use Rattle.replay_run.specs.Replay.{DifferAt, EndsBefore, IsDeparture, TellsReply, IsReplay}
use Rattle.replay_run.proofs.laws.ListedRuns.{listed_again}

-- equal lists don't differ
pub no_difference : (step : ℕ) (made told : List Event) (e f : Event) → made ≡ told
    → DifferAt step made told e f → ⊥
no_difference step made told e f same d =
    let rest = (same-cut d.before (e ∷ d.more) d.before (f ∷ d.more_told) refl
    (sym d.made_is ∙ same ∙ d.told_is)).1 in
    d.apart cc

-- and none ends before the other
pub no_end : (step : ℕ) (made told : List Event) (f : Event) → made ≡ told
    → EndsBefore step made told f → ⊥
no_end step made told f same d =
    omega (arith, ap length same, ap length d.told_is, length-append made (f ∷ d.more_told))

module _ (events : List Event) (verdict : Verdict) where
  departs_not : (step : ℕ) (found : Found) (written : Written)
      → IsDeparture events (Ends verdict) events verdict step found written → ⊥
  departs_not step (FoundEvent e) (WrittenEvent f) d = no_difference step events events e f refl d
  departs_not step (NotEnabled t) (WrittenEvent f) d = no_end step events events f refl d.0
  departs_not step (Over v) (WrittenEvent f) d = no_end step events events f refl d.0
  departs_not step (Over v) (WrittenVerdict w) d = d.3 (let ends = d.1 in let same = d.2 in cc)
  departs_not step (Goes t) (WrittenVerdict w) d = let ends = d.1 in cc
  departs_not step (Goes t) (WrittenEvent f) d = d
  departs_not step (FoundEvent e) (WrittenVerdict w) d = d
  departs_not step (NotEnabled t) (WrittenVerdict w) d = d

  -- equal steps with the same verdict are confirmed
  confirms : (replayed : Replayed) → TellsReply events (Ends verdict) events verdict replayed
      → replayed ≡ Confirmed verdict
  confirms (Confirmed v) tells = ap Confirmed (sym tells.2)
  confirms (Departs step found written) tells = absurd (departs_not step found written tells)

pub played_as : (plan other : Plan) (deal deal_too : Deal) (bodies bodies_too : List Pending)
    (limit : ℕ) (events : List Event) (outcome : Outcome) → plan ≡ other → deal ≡ deal_too
    → bodies ≡ bodies_too
    → IsPlayed plan deal bodies limit events outcome
    → IsPlayed other deal_too bodies_too limit events outcome
played_as plan other deal deal_too bodies bodies_too limit events outcome plans deals all played =
    let P : Plan → Type 0 = λ p. IsPlayed p deal bodies limit events outcome in
    let D : Deal → Type 0 = λ d. IsPlayed other d bodies limit events outcome in
    let B : List Pending → Type 0 = λ bs. IsPlayed other deal_too bs limit events outcome in
    subst B all (subst D deals (subst P plans played))

-- A run by an order and change points is confirmed.
pub run_confirmed : (deal : Deal) (bodies : List Pending) (file : TraceFile) (replayed : Replayed)
    (order points : List ℕ)
    → SpeaksOf (ByList (schedule_of file.events)) deal.threads → deal.threads ≡ length order
    → run deal bodies order points file.header.limit ≡ Some (file.events, file.verdict)
    → IsReplay deal bodies file replayed → replayed ≡ Confirmed file.verdict
run_confirmed deal bodies file replayed order points speaks_too speaks is replay =
    let made = run-played deal bodies order points (file.header).limit file.events file.verdict
    speaks is in
    let again = listed_again (ByPoints order points) deal bodies (file.header).limit file.events
    file.verdict speaks (λ departs. departs) speaks_too made in
    let only = only-played (ByList (schedule_of file.events)) deal bodies (file.header).limit
    replay.made file.events replay.outcome (Ends file.verdict) replay.played again in
    let E : List Event → Type 0 = λ es.
    TellsReply es (Ends file.verdict) file.events file.verdict replayed in
    let O : Outcome → Type 0 = λ o. TellsReply replay.made o file.events file.verdict replayed in
    confirms file.events file.verdict replayed (subst E only.0 (subst O only.1 replay.tells))
