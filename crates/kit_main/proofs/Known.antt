-- A run over bodies that name only what has a name, and lines of a test, names only such.
use Rattle.std.proofs.Common.{◌≡◌, ℕ, ℤ, inl, inr, List, Some, refl}
use Rattle.std.specs.Prelude.{All}
use Rattle.std.proofs.lemmas.List.Elements.{All-weaker}
use Rattle.pct_ask.specs.NameLists.{NameLists}
use Rattle.pct_ask.specs.declared.Deal.{Deal}
use Rattle.pct_ask.specs.declared.ask.Ask.{Ask}
use Rattle.pct_ask.specs.declared.event.Event.{Event}
use Rattle.pct_ask.specs.declared.verdict.Outcome.{Outcome}
use Rattle.pct_ask.specs.declared.verdict.Outcome.TheVariants.{Verdict as Ends}
use Rattle.pct_ask.specs.declared.verdict.Verdict.{Verdict}
use Rattle.pct_ask.specs.declared.verdict.MisuseKind.TheVariants.{NotOwner, SemFull, AlreadyStarted}
use Rattle.pct_ask.specs.declared.verdict.MisuseKind.TheVariants.{TooManyReads}
use Rattle.pct_ask.specs.Bodies.{Pending, pending_of}
use Rattle.policy_pick.specs.Plan.{Plan}
use Rattle.worker_run.specs.Played.{IsPlayed}
use Rattle.worker_run.proofs.laws.AskedRuns.{ComesOf, steps-asked, verdict-comes}
use Rattle.trace_text.specs.Lawful.{NamesKnown, IsKnownVerdict, IsKnownRun}
use Rattle.trace_text.proofs.laws.KnownVerdicts.{IsAsked, failed-known, fault-known, misuse-known}
use Rattle.trace_text.proofs.laws.KnownVerdicts.{passed-known, stuck-known, cut-known}

module _ (names : NameLists) (version : ℕ) (deal : Deal) (bodies : List Pending)
    (asked : (t : ℕ) (answers : List ℤ) (ask : Ask) → (pending_of bodies t answers).ask ≡ Some ask
    → IsAsked names version t (pending_of bodies t answers).line ask) where
  comes : ComesOf (IsAsked names version) (IsKnownVerdict names version)
  comes = record {
    passed = passed-known names version;
    cut = cut-known names version;
    stuck = λ place places all. stuck-known names version place places
        (λ k d within. let is = (all k d within).1 in (is.at, is.on));
    failed = λ t line holds is. failed-known names version t line is.at is.on;
    fault = λ t line ask kind is. fault-known names version t line is.at is.on kind;
    not_owner = λ t line ask is. misuse-known names version t line is.at is.on NotOwner (inl refl);
    sem_full = λ t line s is. misuse-known names version t line is.at is.on SemFull (inl refl);
    started = λ t line u is.
        misuse-known names version t line is.at is.on AlreadyStarted (inl refl);
    many_reads = λ t line l is.
        misuse-known names version t line is.at is.on TooManyReads (inr is.has.1);
  }

  -- the steps, whatever became of the run
  pub known-steps : (plan : Plan) (limit : ℕ) (events : List Event) (outcome : Outcome)
      → IsPlayed plan deal bodies limit events outcome → All (NamesKnown names version) events
  known-steps plan limit events outcome played =
      All-weaker (λ (e : Event). IsAsked names version e.thread e.line e.ask)
      (NamesKnown names version)
      (λ e is. record { thread = is.at; line = is.on; objects = is.has }) events
      (steps-asked (IsAsked names version) (IsKnownVerdict names version) comes deal bodies asked
      plan limit events outcome played)

  pub known-run : (plan : Plan) (limit : ℕ) (events : List Event) (verdict : Verdict)
      (outcome : Outcome) → outcome ≡ Ends verdict → IsPlayed plan deal bodies limit events outcome
      → IsKnownRun names version limit events verdict
  known-run plan limit events verdict outcome ends played = record {
    few = (played.obeys).within;
    steps = known-steps plan limit events outcome played;
    end =
        verdict-comes (IsAsked names version) (IsKnownVerdict names version) comes deal bodies asked
        plan limit events verdict outcome ends played;
  }
