-- A run of a script names only what the script has.
use Rattle.std.proofs.Common.{◌≡◌, ℕ, ℤ, ◌<◌, true, nat_le, inl, inr, List, length, Some, refl}
use Rattle.std.proofs.Common.{sym, subst, arith}
use Rattle.std.specs.Prelude.{All}
use Rattle.std.proofs.lemmas.Bool.{cases_lt, cases_Bool}
use Rattle.std.proofs.lemmas.Bool.Decides.{nat_tests}
use Rattle.std.proofs.lemmas.List.{get_or_past}
use Rattle.std.proofs.lemmas.List.Elements.{All-weaker}
use Rattle.std.proofs.lemmas.List.FromFn.{length-map-range_with_len, get_or-map-range_with_len}
use Rattle.pct_ask.specs.NameLists.{NameLists}
use Rattle.pct_ask.specs.Objects.{Sizes, sizes_of_deal, sizes_of_names, IsInRange}
use Rattle.pct_ask.specs.Objects.{PostIsInRange}
use Rattle.pct_ask.specs.declared.Deal.{Deal}
use Rattle.pct_ask.specs.declared.ask.Ask.{Ask}
use Rattle.pct_ask.specs.declared.ask.Ask.TheVariants.{RdLock, WrLock, TryRdLock, TryWrLock}
use Rattle.pct_ask.specs.declared.ask.Ask.TheVariants.{RwUnlock}
use Rattle.pct_ask.specs.declared.ask.Post.{Post}
use Rattle.pct_ask.specs.declared.event.Event.{Event}
use Rattle.pct_ask.specs.declared.verdict.Outcome.{Outcome}
use Rattle.pct_ask.specs.declared.verdict.Outcome.TheVariants.{Verdict as Ends}
use Rattle.pct_ask.specs.declared.verdict.Verdict.{Verdict}
use Rattle.pct_ask.specs.declared.verdict.MisuseKind.TheVariants.{NotOwner, SemFull, AlreadyStarted}
use Rattle.pct_ask.specs.declared.verdict.MisuseKind.TheVariants.{TooManyReads}
use Rattle.pct_ask.specs.Bodies.{Pending, no_body, pending_of}
use Rattle.script_tree.specs.ScriptText.{ScriptText}
use Rattle.script_tree.specs.Fitting.{IsScript, rwlocks_fit}
use Rattle.script_tree.specs.DealOf.{IsDealOf}
use Rattle.script_tree.specs.Naming.{IsPostOf}
use Rattle.script_tree.specs.Posts.{pending}
use Rattle.script_tree.proofs.laws.Naming.{pending_named}
use Rattle.policy_pick.specs.Plan.{Plan}
use Rattle.worker_run.specs.Played.{IsPlayed}
use Rattle.worker_run.proofs.laws.AskedRuns.{ComesOf, steps-asked, verdict-comes}
use Rattle.script_body.specs.Bodies.{bodies_of}
use Rattle.trace_text.specs.Lawful.{HasObjects, NamesKnown, IsKnownVerdict, IsKnownRun}
use Rattle.trace_text.proofs.laws.KnownVerdicts.{IsAsked, failed-known, fault-known, misuse-known}
use Rattle.trace_text.proofs.laws.KnownVerdicts.{passed-known, stuck-known, cut-known}
use Rattle.pct_top.specs.Runs.{trace_version}
use Rattle.pct_top.proofs.InRange.{same_sizes}

second : (script : ScriptText) (l : ℕ) → rwlocks_fit script.version (script.names).rwlocks ≡ true
    → l < length (script.names).rwlocks → trace_version script ≡ 2
second script l fits within = elim (cases_Bool (nat_le 3 script.version)) [
  | inl third ↦ rw third
  | inr earlier ↦ absurd (grind (arith, nat_tests))
]

module _ (script : ScriptText) (deal : Deal) (sound : IsScript script)
    (of : IsDealOf script deal) where
  abbrev names : NameLists
  names = script.names

  abbrev version : ℕ
  version = trace_version script

  -- what is one of those that have names has a name in the trace of the script's version
  has-objects : (ask : Ask) → IsInRange (sizes_of_names names) ask → HasObjects names version ask
  has-objects (RdLock l) h = (h, second script l sound.known_rwlocks h)
  has-objects (WrLock l) h = (h, second script l sound.known_rwlocks h)
  has-objects (TryRdLock l) h = (h, second script l sound.known_rwlocks h)
  has-objects (TryWrLock l) h = (h, second script l sound.known_rwlocks h)
  has-objects (RwUnlock l) h = (h, second script l sound.known_rwlocks h)
  has-objects ask h = h

  objects : (ask : Ask) → IsInRange (sizes_of_deal deal) ask → HasObjects names version ask
  objects ask h =
      has-objects ask
      (subst (λ (sizes : Sizes). IsInRange sizes ask) (sym (same_sizes script deal sound of)) h)

  abbrev bodies : List Pending
  bodies = bodies_of script

  -- ---- a step

  asked-of : (t : ℕ) (post : Post) (ask : Ask) → t < length names.threads → IsPostOf deal post
      → post.ask ≡ Some ask → IsAsked names version t post.line ask
  asked-of t post ask within is asks = record {
    at = within;
    on = (is.first_line, is.last_line);
    has = objects ask (subst (PostIsInRange (sizes_of_deal deal)) asks is.ask);
  }

  asked : (t : ℕ) (answers : List ℤ) (ask : Ask) → (pending_of bodies t answers).ask ≡ Some ask
      → IsAsked names version t (pending_of bodies t answers).line ask
  asked t answers ask asks =
      let n = length script.threads in
      elim (cases_lt t n) [
        | inl below ↦
            let at = get_or-map-range_with_len (pending script) 0 n t t no_body below
            (omega arith) in
            let P : Pending → Type 0 = λ posts. (posts answers).ask ≡ Some ask
            → IsAsked names version t (posts answers).line ask in
            let known : P (pending script t) =
            asked-of t (pending script t answers) ask (omega (arith, below, sound.same_threads))
            (pending_named script deal sound of t below answers) in
            subst P (sym at) known asks
        | inr past ↦
            let long = length-map-range_with_len (pending script) 0 n in
            let none = get_or_past bodies t no_body (omega (arith, long, past)) in
            let P : Pending → Type 0 = λ posts. (posts answers).ask ≡ Some ask in
            absurd (let no : P no_body = subst P none asks in cc)
      ]

  -- ---- the run
  comes : ComesOf (IsAsked names version) (IsKnownVerdict names version)
  comes = record {
    passed = passed-known names version;
    cut = cut-known names version;
    stuck = λ place places all. stuck-known names version place places
        (λ k d within. let is = (all k d within).1 in (is.at, is.on));
    failed = λ t line holds is. failed-known names version t line is.at is.on;
    fault = λ t line ask kind is. fault-known names version t line is.at is.on kind;
    not_owner = λ t line ask is. misuse-known names version t line is.at is.on NotOwner (inl refl);
    sem_full = λ t line s is. misuse-known names version t line is.at is.on SemFull (inl refl);
    started = λ t line u is.
        misuse-known names version t line is.at is.on AlreadyStarted (inl refl);
    many_reads = λ t line l is.
        misuse-known names version t line is.at is.on TooManyReads (inr is.has.1);
  }

  -- the steps, whatever became of the run
  pub known-steps : (plan : Plan) (limit : ℕ) (events : List Event) (outcome : Outcome)
      → IsPlayed plan deal bodies limit events outcome → All (NamesKnown names version) events
  known-steps plan limit events outcome played =
      All-weaker (λ (e : Event). IsAsked names version e.thread e.line e.ask)
      (NamesKnown names version)
      (λ e is. record { thread = is.at; line = is.on; objects = is.has }) events
      (steps-asked (IsAsked names version) (IsKnownVerdict names version) comes deal bodies asked
      plan limit events outcome played)

  pub known-run : (plan : Plan) (limit : ℕ) (events : List Event) (verdict : Verdict)
      (outcome : Outcome) → outcome ≡ Ends verdict → IsPlayed plan deal bodies limit events outcome
      → IsKnownRun names version limit events verdict
  known-run plan limit events verdict outcome ends played = record {
    few = (played.obeys).within;
    steps = known-steps plan limit events outcome played;
    end =
        verdict-comes (IsAsked names version) (IsKnownVerdict names version) comes deal bodies asked
        plan limit events verdict outcome ends played;
  }
