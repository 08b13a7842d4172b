-- What is so of all that bodies ask is so of the steps of their run, and the run's verdict follows.
use Rattle.std.proofs.Common.{◌≡◌, ℕ, ℤ, Bool, true, false, cond, eqb, inl, inr, List, [], ◌∷◌}
use Rattle.std.proofs.Common.{length, Option, Some, None, refl, sym, ap, subst, ◌∙◌}
use Rattle.std.specs.Prelude.{All}
use Rattle.std.specs.List.{filter_map, cons_option}
use Rattle.std.proofs.lemmas.Bool.{cases_Bool}
use Rattle.std.proofs.lemmas.List.Elements.{All-append, All-cons, All-nil}
use Rattle.std.proofs.lemmas.Option.{option_and_then_some}
use Rattle.pct_ask.specs.declared.Deal.{Deal}
use Rattle.pct_ask.specs.declared.ask.Ask.{Ask}
use Rattle.pct_ask.specs.declared.ask.FaultKind.{FaultKind}
use Rattle.pct_ask.specs.declared.ask.Ask.TheVariants.{Read, Write, Add, Cas, Lock, TryLock, Unlock}
use Rattle.pct_ask.specs.declared.ask.Ask.TheVariants.{Release, Regain, Signal, Broadcast, Down}
use Rattle.pct_ask.specs.declared.ask.Ask.TheVariants.{TryDown, Up, Arrive, Leave, Join, Yield}
use Rattle.pct_ask.specs.declared.ask.Ask.TheVariants.{Check, Fault, Start, Begin, RdLock, WrLock}
use Rattle.pct_ask.specs.declared.ask.Ask.TheVariants.{TryRdLock, TryWrLock, RwUnlock}
use Rattle.pct_ask.specs.declared.ask.Post.{Post}
use Rattle.pct_ask.specs.declared.event.Event.{Event}
use Rattle.pct_ask.specs.declared.verdict.Outcome.{Outcome}
use Rattle.pct_ask.specs.declared.verdict.Outcome.TheVariants.{Verdict as Ends, Departed}
use Rattle.pct_ask.specs.declared.verdict.Verdict.{Verdict}
use Rattle.pct_ask.specs.declared.verdict.Verdict.TheVariants.{Passed, Failed, Stuck, Misuse}
use Rattle.pct_ask.specs.declared.verdict.Verdict.TheVariants.{Fault as Faulted, Cut}
use Rattle.pct_ask.specs.declared.verdict.MisuseKind.TheVariants.{NotOwner, SemFull, AlreadyStarted}
use Rattle.pct_ask.specs.declared.verdict.MisuseKind.TheVariants.{TooManyReads}
use Rattle.pct_ask.specs.Bodies.{Pending, pending_of}
use Rattle.sync_store.specs.Store.{StoreState, first_store, is_on, rwlock_of}
use Rattle.sync_store.specs.Effect.{Goes, Stops, effect, after_unlock, goes_or}
use Rattle.sync_store.specs.World.{Source, World, first_world, world_by_step, world_from}
use Rattle.sync_store.specs.World.{answers_of}
use Rattle.policy_pick.specs.Plan.{Plan}
use Rattle.policy_pick.specs.declared.chance.Pick.{Pick}
use Rattle.policy_pick.specs.declared.chance.Pick.TheVariants.{Thread, Waits, Nobody, Departs}
use Rattle.turn_book.specs.Board.{verdict_of}
use Rattle.turn_book.specs.Chances.{threads_below, is_idle, blocked_by_ask, blocked_at}
use Rattle.turn_book.specs.Chances.{verdict_of_blocked, rest_verdict}
use Rattle.turn_book.specs.Obeys.{next_posts_in, choice_in, outcome_by, outcome_by_pick}
use Rattle.turn_book.specs.Posts.{schedule_of}
use Rattle.turn_book.proofs.laws.MorePosts.{settled-at}
use Rattle.turn_book.proofs.laws.Worlds.{Steps, steps-from, event_of, effect-is, made-from}
use Rattle.worker_run.specs.Bodies.{source_of_bodies}
use Rattle.worker_run.specs.Played.{IsPlayed}

-- a thread asks so at its line
abbrev pub IsAskedAt : (ℕ → ℕ → Ask → Type 0) → ℕ × ℕ → Type 0
IsAskedAt IsAsked pair = (ask : Ask) × IsAsked pair.0 pair.1 ask

-- Every verdict is so that may come of such asks: the run passes or is cut, threads are blocked
-- where they ask, or a thread fails by its check, faults, or misuses an object.
pub record ComesOf (IsAsked : ℕ → ℕ → Ask → Type 0) (IsEnd : Verdict → Type 0) : Type 0 where
  pub passed : IsEnd Passed
  pub cut : IsEnd Cut
  pub stuck : (pair : ℕ × ℕ) (pairs : List (ℕ × ℕ)) → All (IsAskedAt IsAsked) (pair ∷ pairs)
      → IsEnd (Stuck (pair ∷ pairs))
  pub failed : (t line : ℕ) (holds : Bool) → IsAsked t line (Check holds) → IsEnd (Failed t line)
  pub fault : (t line : ℕ) (ask : Ask) (kind : FaultKind) → IsAsked t line ask
      → IsEnd (Faulted t line kind)
  pub not_owner : (t line : ℕ) (ask : Ask) → IsAsked t line ask → IsEnd (Misuse t line NotOwner)
  pub sem_full : (t line s : ℕ) → IsAsked t line (Up s) → IsEnd (Misuse t line SemFull)
  pub started : (t line u : ℕ) → IsAsked t line (Start u) → IsEnd (Misuse t line AlreadyStarted)
  pub many_reads : (t line l : ℕ) → IsAsked t line (RdLock l) → IsEnd (Misuse t line TooManyReads)

module _ (IsAsked : ℕ → ℕ → Ask → Type 0) (IsEnd : Verdict → Type 0) (comes : ComesOf IsAsked IsEnd)
    (deal : Deal) (bodies : List Pending)
    (asked : (t : ℕ) (answers : List ℤ) (ask : Ask) → (pending_of bodies t answers).ask ≡ Some ask
    → IsAsked t (pending_of bodies t answers).line ask) where
  abbrev IsTaken : Event → Type 0
  IsTaken event = IsAsked event.thread event.line event.ask

  abbrev source : Source
  source = source_of_bodies bodies

  -- ---- the verdict of a step
  abbrev Maybe : Option Verdict → Type 0
  Maybe None = Unit {0}
  Maybe (Some verdict) = IsEnd verdict

  module _ (store : StoreState) (t line : ℕ) where
    by-test : (b : Bool) (after : StoreState) (answer : ℤ) (verdict : Verdict) → IsEnd verdict
        → Maybe (verdict_of (cond b (Goes after answer) (Stops verdict)))
    by-test true after answer verdict known = tt
    by-test false after answer verdict known = known

    no-stop : (b : Bool) (after other : StoreState) (answer last : ℤ)
        → Maybe (verdict_of (cond b (Goes after answer) (Goes other last)))
    no-stop true after other answer last = tt
    no-stop false after other answer last = tt

    stop-ends : (ask : Ask) → IsAsked t line ask → Maybe (verdict_of (effect store t line ask))
    stop-ends (Read x) is = tt
    stop-ends (Write x value) is = tt
    stop-ends (Add x value) is =
        by-test _ _ _ (Faulted t line _) (comes.fault t line (Add x value) _ is)
    stop-ends (Cas x old new) is = no-stop _ _ _ _ _
    stop-ends (Lock m) is = tt
    stop-ends (TryLock m) is = no-stop _ _ _ _ _
    stop-ends (Unlock m) is =
        by-test _ _ _ (Misuse t line NotOwner) (comes.not_owner t line (Unlock m) is)
    stop-ends (Release c m) is =
        by-test _ _ _ (Misuse t line NotOwner) (comes.not_owner t line (Release c m) is)
    stop-ends (Regain c m) is = tt
    stop-ends (Signal c) is = tt
    stop-ends (Broadcast c) is = tt
    stop-ends (Down s) is = tt
    stop-ends (TryDown s) is = no-stop _ _ _ _ _
    stop-ends (Up s) is =
        by-test _ _ _ (Misuse t line SemFull) (comes.sem_full t line s is)
    stop-ends (Arrive b) is = tt
    stop-ends (Leave b) is = tt
    stop-ends (Join u) is = tt
    stop-ends Yield is = tt
    stop-ends (Check holds) is =
        by-test holds _ _ (Failed t line) (comes.failed t line holds is)
    stop-ends (Fault kind) is = comes.fault t line (Fault kind) kind is
    stop-ends (Start u) is = elim (cases_Bool (is_on u store.started)) [
      | inl on ↦ rw on (comes.started t line u is)
      | inr off ↦ rw off tt
    ]
    stop-ends Begin is = tt
    stop-ends (RdLock l) is =
        by-test _ _ _ (Misuse t line TooManyReads) (comes.many_reads t line l is)
    stop-ends (WrLock l) is = tt
    stop-ends (TryRdLock l) is = no-stop _ _ _ _ _
    stop-ends (TryWrLock l) is = no-stop _ _ _ _ _
    stop-ends (RwUnlock l) is = by-lock (after_unlock (rwlock_of store l) t)
      where
        by-lock : (o : Option _) → Maybe (verdict_of (goes_or store l o (Misuse t line NotOwner)))
        by-lock None = comes.not_owner t line (RwUnlock l) is
        by-lock (Some rwlock) = tt

  -- ---- the whole world
  record IsAskedWorld (world : World) : Type 0 where
    steps : All IsTaken world.events
    verdict : Maybe world.verdict

  step-asked : (world : World) (t : ℕ) (next : World) → IsAskedWorld world
      → Steps source world t next → IsAskedWorld next
  step-asked world t next known steps =
      let P : Post → Type 0 = λ post. (ask : Ask) → post.ask ≡ Some ask
      → IsAsked t post.line ask in
      let same : pending_of bodies t (answers_of t world.events) ≡ steps.post =
      let posted = steps.posted in cc in
      let is = subst P same (asked t (answers_of t world.events)) steps.ask steps.asks in
      let line = (steps.post).line in
      let step = effect world.store t line steps.ask in
      let grown = sym (effect-is world t line steps.ask step) ∙ steps.next_is in
      let event = event_of t line steps.ask step in
      subst IsAskedWorld grown (record {
        steps = All-append IsTaken world.events (event ∷ []) known.steps
            (All-cons IsTaken event [] is (All-nil IsTaken));
        verdict = stop-ends world.store t line steps.ask is;
      })

  from-asked : (schedule : List ℕ) (world later : World) → IsAskedWorld world
      → world_from source world schedule ≡ Some later → IsAskedWorld later
  from-asked [] world later known e = let same : world ≡ later = cc in subst IsAskedWorld same known
  from-asked (t ∷ schedule) world later known e =
      option_and_then_some (λ next. world_from source next schedule)
      (world_by_step source world t) later
      e (λ next first rest.
      from-asked schedule next later (step-asked world t next known
      (steps-from source world t next first)) rest)

  start-asked : IsAskedWorld (first_world (first_store deal))
  start-asked = record { steps = All-nil IsTaken; verdict = tt }

  -- ---- the verdict at rest
  abbrev IsPair : ℕ × ℕ → Type 0
  IsPair = IsAskedAt IsAsked

  module _ (world : World) where
    abbrev IsPairOf : Option (ℕ × ℕ) → Type 0
    IsPairOf None = Unit {0}
    IsPairOf (Some pair) = IsPair pair

    pair-by : (idle : Bool) (t line : ℕ) → IsPair (t, line)
        → IsPairOf (cond idle None (Some (t, line)))
    pair-by true t line is = tt
    pair-by false t line is = is

    pair-of : (t : ℕ) (post : Post) (ask : Option Ask) → post.ask ≡ ask
        → pending_of bodies t (answers_of t world.events) ≡ post
        → IsPairOf (blocked_by_ask world.store t post.line ask)
    pair-of t post None asks posted = tt
    pair-of t post (Some ask) asks posted =
        let P : Post → Type 0 = λ post. (ask : Ask) → post.ask ≡ Some ask
        → IsAsked t post.line ask in
        let is = subst P posted (asked t (answers_of t world.events)) ask asks in
        pair-by (is_idle world.store t ask) t post.line (ask, is)

    pair-at : (t : ℕ) → IsPairOf (blocked_at world.store (next_posts_in source world) t)
    pair-at t = let post = pending_of bodies t (answers_of t world.events) in
        pair-of t post post.ask refl refl

    with-pair : (pair : Option (ℕ × ℕ)) (pairs : List (ℕ × ℕ)) → IsPairOf pair
        → All IsPair pairs → All IsPair (cons_option pair pairs)
    with-pair None pairs is all = all
    with-pair (Some pair) pairs is all = All-cons IsPair pair pairs is all

    pairs : (ts : List ℕ) → All IsPair
        (filter_map (blocked_at world.store (next_posts_in source world)) ts)
    pairs [] = All-nil IsPair
    pairs (t ∷ ts) =
        with-pair (blocked_at world.store (next_posts_in source world) t)
        (filter_map (blocked_at world.store (next_posts_in source world)) ts) (pair-at t)
        (pairs ts)

    blocked-ends : (blocked : List (ℕ × ℕ)) → All IsPair blocked
        → IsEnd (verdict_of_blocked blocked)
    blocked-ends [] all = comes.passed
    blocked-ends (pair ∷ blocked) all = comes.stuck pair blocked all

    rest-ends : IsEnd
        (rest_verdict deal.threads world.store (next_posts_in source world))
    rest-ends =
        blocked-ends (filter_map (blocked_at world.store (next_posts_in source world))
        (threads_below deal.threads)) (pairs (threads_below deal.threads))

    -- where a run ended by a verdict
    abbrev EndsSo : Option Outcome → Type 0
    EndsSo None = Unit {0}
    EndsSo (Some (Ends verdict)) = IsEnd verdict
    EndsSo (Some (Departed t)) = Unit {0}

    by-pick : (full : Bool) (pick : Pick)
        → EndsSo
        (outcome_by_pick (rest_verdict deal.threads world.store (next_posts_in source world))
        full pick)
    by-pick full Nobody = rest-ends
    by-pick true (Thread t) = comes.cut
    by-pick false (Thread t) = tt
    by-pick true (Departs t) = comes.cut
    by-pick false (Departs t) = tt
    by-pick full (Waits t) = tt

    by-verdict : (verdict : Option Verdict) (otherwise : Option Outcome) → Maybe verdict
        → EndsSo otherwise → EndsSo (outcome_by verdict otherwise)
    by-verdict None otherwise known rest = rest
    by-verdict (Some verdict) otherwise known rest = known

  -- the steps, whatever became of the run
  pub steps-asked : (plan : Plan) (limit : ℕ) (events : List Event) (outcome : Outcome)
      → IsPlayed plan deal bodies limit events outcome → All IsTaken events
  steps-asked plan limit events outcome played =
      let w = made-from (first_store deal) source events (played.obeys).made in
      subst (All IsTaken) (w.1).trace
      (from-asked (schedule_of events) (first_world (first_store deal)) w.0 start-asked
      (w.1).at).steps

  -- and the verdict, where it has one
  pub verdict-comes : (plan : Plan) (limit : ℕ) (events : List Event) (verdict : Verdict)
      (outcome : Outcome) → outcome ≡ Ends verdict → IsPlayed plan deal bodies limit events outcome
      → IsEnd verdict
  verdict-comes plan limit events verdict outcome ends played =
      let w = made-from (first_store deal) source events (played.obeys).made in
      let world = w.0 in
      let known = from-asked (schedule_of events) (first_world (first_store deal)) world start-asked
      (w.1).at in
      let after = sym (settled-at plan deal source limit events world w.1) ∙ played.ends
      ∙ ap Some ends in
      let by = by-verdict world world.verdict
      (outcome_by_pick (rest_verdict deal.threads world.store (next_posts_in source world))
      (eqb (length events) limit) (choice_in plan deal.threads source (schedule_of events)
      world)) known.verdict
      (by-pick world (eqb (length events) limit)
      (choice_in plan deal.threads source (schedule_of events) world)) in
      subst (EndsSo world) after by
