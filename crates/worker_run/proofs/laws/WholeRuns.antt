-- Over bodies each plan that speaks of their threads has a run: some steps obey it and are settled.
-- So a run by an order
-- and change points, or by moments, is there, and is what is played.
use Rattle.std.proofs.Common.{◌≡◌, ◌≢◌, ℕ, zero, suc, ◌+◌, ◌<◌, Bool, true, false, eqb, Option}
use Rattle.std.proofs.Common.{Some, None, List, [], ◌∷◌, ◌++◌, length, refl, sym, ap, subst, ◌∙◌}
use Rattle.std.proofs.Common.{arith, eq-eqb}
use Rattle.std.proofs.lemmas.Bool.{false≢true}
use Rattle.std.proofs.lemmas.List.{length-append}
use Rattle.std.proofs.lemmas.List.FromFn.{length-map-range_with_len, get_or-map-range_with_len}
use Rattle.pct_ask.specs.declared.ask.Ask.{Ask}
use Rattle.pct_ask.specs.declared.ask.Post.{Post}
use Rattle.pct_ask.specs.declared.Deal.{Deal}
use Rattle.pct_ask.specs.declared.event.Event.{Event}
use Rattle.pct_ask.specs.declared.verdict.Verdict.{Verdict}
use Rattle.pct_ask.specs.declared.verdict.Outcome.{Outcome}
use Rattle.pct_ask.specs.declared.verdict.Outcome.TheVariants.{Verdict as Ends}
use Rattle.pct_ask.specs.Bodies.{Pending, pending_of}
use Rattle.rank_now.specs.declared.moment.Moment.{Moment}
use Rattle.sync_store.specs.Store.{StoreState, first_store}
use Rattle.sync_store.specs.Enabled.{enabled}
use Rattle.sync_store.specs.Ready.{join_target, unknown_target, ready_by}
use Rattle.sync_store.specs.Effect.{Effect, effect, store_after}
use Rattle.sync_store.specs.World.{Source, World, has_ended, answers_of}
use Rattle.policy_pick.specs.declared.chance.Chance.{Chance}
use Rattle.policy_pick.specs.declared.chance.Chance.TheVariants.{Ready as Goes, Ended}
use Rattle.policy_pick.specs.declared.chance.Pick.{Pick}
use Rattle.policy_pick.specs.declared.chance.Pick.TheVariants.{Thread, Waits, Nobody, Departs}
use Rattle.policy_pick.specs.Plan.{Plan, ByPoints, ByMoments, SpeaksOf}
use Rattle.policy_pick.specs.Choice.{chance_of}
use Rattle.turn_book.specs.Chances.{is_unknown, is_ended, chance_by, chance_of_ask, chance, chances}
use Rattle.turn_book.specs.Chances.{rest_verdict}
use Rattle.turn_book.specs.Posts.{schedule_of}
use Rattle.turn_book.specs.Obeys.{next_posts_in, choice_in, Obeys, outcome_by_pick, outcome_by}
use Rattle.turn_book.specs.Obeys.{outcome_after}
use Rattle.turn_book.specs.Board.{verdict_of}
use Rattle.turn_book.proofs.laws.Worlds.{event_of, effect-is, Steps, IsMade, made-from, made-events}
use Rattle.turn_book.proofs.laws.Worlds.{made-push}
use Rattle.turn_book.proofs.laws.MorePosts.{chosen-ready, choice-at, settled-at}
use Rattle.turn_book.proofs.laws.ObeyingSteps.{obeys-push, obeys-none}
use Rattle.worker_run.specs.Bodies.{source_of_bodies}
use Rattle.worker_run.specs.Run.{Run, run, directed_run}
use Rattle.worker_run.specs.Played.{IsPlayed, IsRun}
use Rattle.worker_run.proofs.laws.KnownPosts.{bodies-no-wait}
use Rattle.worker_run.proofs.Follows.{points-run, moments-run}

-- where nothing is settled, a thread goes on, and there is room
record GoesOn (verdict : Option Verdict) (full : Bool) (pick : Pick) : Type 0 where
  pub thread : ℕ
  pub runs : verdict ≡ None
  pub room : full ≡ false
  pub picks : pick ≡ Thread thread

goes-on : (rest : Verdict) (verdict : Option Verdict) (full : Bool) (pick : Pick)
    → outcome_by verdict (outcome_by_pick rest full pick) ≡ None → ((u : ℕ) → pick ≡ Waits u → ⊥)
    → GoesOn verdict full pick
goes-on rest (Some verdict) full pick e waits = absurd cc
goes-on rest None true (Thread t) e waits = absurd cc
goes-on rest None false (Thread t) e waits = record {
  thread = t;
  runs = refl;
  room = refl;
  picks = refl;
}
goes-on rest None full (Waits u) e waits = absurd (waits u refl)
goes-on rest None full Nobody e waits = absurd cc
goes-on rest None true (Departs u) e waits = absurd cc
goes-on rest None false (Departs u) e waits = absurd cc

enabled-by : (target : Option ℕ) (goes : Bool) → chance_by (ready_by target goes) ≡ Goes
    → goes ≡ true
enabled-by None true e = refl
enabled-by None false e = cc
enabled-by (Some u) goes e = cc

-- a Ready thread asks, and is enabled
ready-enabled : (store : StoreState) (away ended : ℕ → Bool) (t : ℕ) (ask : Option Ask)
    → chance_of_ask store away ended t ask ≡ Goes
    → (a : Ask) × (ask ≡ Some a) × (enabled store ended t a ≡ true)
ready-enabled store away ended t None e = cc
ready-enabled store away ended t (Some ask) e =
    (ask, refl, enabled-by (unknown_target away (join_target ask)) (enabled store ended t ask) e)

module _ (plan : Plan) (deal : Deal) (bodies : List Pending) (limit : ℕ)
    (speaks : SpeaksOf plan deal.threads) where
  abbrev source : Source
  source = source_of_bodies bodies

  -- one more step
  record OneMore (events : List Event) : Type 0 where
    pub event : Event
    pub obeys : Obeys plan deal source limit (events ++ event ∷ [])

  module _ (events : List Event) (obeys : Obeys plan deal source limit events) (world : World)
      (made : IsMade (first_store deal) source events world)
      (going : GoesOn world.verdict (eqb (length events) limit)
      (choice_in plan deal.threads source (schedule_of events) world)) where
    abbrev all : List Chance
    all = chances deal.threads world.store (next_posts_in source world)

    abbrev post : Post
    post = pending_of bodies going.thread (answers_of going.thread world.events)

    ready : (going.thread < length all) × (chance_of all going.thread ≡ Goes)
    ready =
        let long = length-map-range_with_len (chance world.store (next_posts_in source world)) 0
        deal.threads in
        let Speaks : ℕ → Type 0 = SpeaksOf plan in
        chosen-ready plan (schedule_of events) all going.thread (subst Speaks (sym long) speaks)
        going.picks

    asks : (a : Ask) × (post.ask ≡ Some a)
        × (enabled world.store (has_ended source world.events) going.thread a ≡ true)
    asks =
        let next = next_posts_in source world in
        let long = length-map-range_with_len (chance world.store next) 0 deal.threads in
        let within : going.thread < deal.threads = omega (arith, ready.0, long) in
        let at = get_or-map-range_with_len (chance world.store next) 0 deal.threads going.thread
        going.thread Ended within (omega arith) in
        ready-enabled world.store (is_unknown next) (is_ended next) going.thread post.ask
        (sym at ∙ ready.1)

    abbrev step : Effect
    step = effect world.store going.thread post.line asks.0

    abbrev event : Event
    event = event_of going.thread post.line asks.0 step

    abbrev next_world : World
    next_world = record {
      store = store_after world.store step;
      events = world.events ++ event ∷ [];
      verdict = verdict_of step;
    }

    steps : Steps source world going.thread next_world
    steps = record {
      post = post;
      ask = asks.0;
      runs = going.runs;
      posted = refl;
      asks = asks.1;
      goes = asks.2;
      next_is = effect-is world going.thread post.line asks.0 step;
    }

    room : length events < limit
    room =
        let apart : length events ≢ limit =
        λ same. false≢true (sym going.room ∙ eq-eqb (length events) limit same) in
        omega (arith, obeys.within)

    one-more : OneMore events
    one-more =
        let pushed = made-push (first_store deal) source events world next_world event made steps
        (ap (λ es. es ++ event ∷ []) made.trace) in
        record {
          event = event;
          obeys =
              obeys-push plan deal source limit events event obeys
              (choice-at plan deal source events world made ∙ ap Some going.picks)
              (made-events (first_store deal) source (events ++ event ∷ []) next_world pushed) room;
        }

  -- a whole run
  pub record HasRun : Type 0 where
    pub events : List Event
    pub outcome : Outcome
    pub played : IsPlayed plan deal bodies limit events outcome

  more-by : (events : List Event) → Obeys plan deal source limit events → (o : Option Outcome)
      → outcome_after plan deal source limit events ≡ o
      → ((more : OneMore events) → length events < limit → HasRun) → HasRun
  more-by events obeys (Some outcome) ends further = record {
    events = events;
    outcome = outcome;
    played = record { obeys = obeys; ends = ends };
  }
  more-by events obeys None ends further =
      let w = made-from (first_store deal) source events obeys.made in
      let world = w.0 in
      let going = goes-on (rest_verdict deal.threads world.store (next_posts_in source world))
      world.verdict (eqb (length events) limit)
      (choice_in plan deal.threads source (schedule_of events) world)
      (sym (settled-at plan deal source limit events world w.1) ∙ ends)
      (λ u waits. bodies-no-wait deal bodies (schedule_of events) world plan u speaks waits) in
      further (one-more events obeys world w.1 going) (room events obeys world w.1 going)

  run-on : (left : ℕ) (events : List Event) → Obeys plan deal source limit events
      → length events + left ≡ limit → HasRun
  run-on zero events obeys reached =
      more-by events obeys (outcome_after plan deal source limit events) refl
      (λ more short. absurd (omega arith))
  run-on (suc left) events obeys reached =
      more-by events obeys (outcome_after plan deal source limit events) refl (λ more short.
      run-on left (events ++ (more.event) ∷ []) more.obeys
      (omega (arith, length-append events (more.event ∷ []))))

  pub has-run : HasRun
  has-run = run-on limit [] (obeys-none plan deal source limit) (omega arith)

-- ---- the run is what is played
same-run : (events other : List Event) (verdict last : Verdict)
    → ◌≡◌ {A = Option Run} (Some (events, verdict)) (Some (other, last))
    → (events ≡ other) × (verdict ≡ last)
same-run events other verdict last e =
    let pair : ◌≡◌ {A = Run} (events, verdict) (other, last) = cc in
    (ap (λ (r : Run). r.0) pair, ap (λ (r : Run). r.1) pair)

played-by : (plan : Plan) (deal : Deal) (bodies : List Pending) (limit : ℕ) (whole : Option Run)
    (events other : List Event) (verdict : Verdict) (outcome : Outcome)
    → whole ≡ Some (events, verdict) → IsRun whole other outcome
    → IsPlayed plan deal bodies limit other outcome
    → IsPlayed plan deal bodies limit events (Ends verdict)
played-by plan deal bodies limit whole events other verdict outcome is run_is played =
    let same = same-run other events run_is.verdict verdict (sym run_is.steps ∙ is) in
    let E : List Event → Type 0 = λ es. IsPlayed plan deal bodies limit es (Ends verdict) in
    let O : Outcome → Type 0 = λ o. IsPlayed plan deal bodies limit other o in
    subst E same.0 (subst O (run_is.ends ∙ ap Ends same.1) played)

pub run-played : (deal : Deal) (bodies : List Pending) (order points : List ℕ) (limit : ℕ)
    (events : List Event) (verdict : Verdict) → SpeaksOf (ByPoints order points) deal.threads
    → run deal bodies order points limit ≡ Some (events, verdict)
    → IsPlayed (ByPoints order points) deal bodies limit events (Ends verdict)
run-played deal bodies order points limit events verdict speaks is =
    let r = has-run (ByPoints order points) deal bodies limit speaks in
    played-by (ByPoints order points) deal bodies limit (run deal bodies order points limit) events
    r.events verdict r.outcome is (points-run deal bodies order points limit r.events r.outcome
    speaks r.played) r.played

-- The same of the directed run.
pub directed-is-there : (deal : Deal) (bodies : List Pending) (order : List ℕ)
    (moments : List Moment) (limit : ℕ) → SpeaksOf (ByMoments order moments) deal.threads
    → (whole : Run) × (directed_run deal bodies order moments limit ≡ Some whole)
directed-is-there deal bodies order moments limit speaks =
    let r = has-run (ByMoments order moments) deal bodies limit speaks in
    let is = moments-run deal bodies order moments limit r.events r.outcome speaks r.played in
    ((r.events, is.verdict), is.steps)

pub directed-played : (deal : Deal) (bodies : List Pending) (order : List ℕ) (moments : List Moment)
    (limit : ℕ) (events : List Event) (verdict : Verdict)
    → SpeaksOf (ByMoments order moments) deal.threads
    → directed_run deal bodies order moments limit ≡ Some (events, verdict)
    → IsPlayed (ByMoments order moments) deal bodies limit events (Ends verdict)
directed-played deal bodies order moments limit events verdict speaks is =
    let r = has-run (ByMoments order moments) deal bodies limit speaks in
    played-by (ByMoments order moments) deal bodies limit
    (directed_run deal bodies order moments limit) events r.events verdict r.outcome is
    (moments-run deal bodies order moments limit r.events r.outcome speaks r.played) r.played
