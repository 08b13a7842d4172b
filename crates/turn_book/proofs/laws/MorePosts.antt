-- What stays as more posts become known: each world, each choice that waits for nobody, and what
-- became of a run.
use Rattle.std.proofs.Common.{◌≡◌, ℕ, zero, suc, ◌+◌, ◌<◌, ◌≤◌, Bool, true, false, cond, eqb}
use Rattle.std.proofs.Common.{Option, Some, None, List, [], ◌∷◌, ◌++◌, length, map, refl, sym, ap}
use Rattle.std.proofs.Common.{subst, ◌∙◌, arith, inl, inr}
use Rattle.std.specs.Prelude.{is_none}
use Rattle.std.specs.Option.{option_and_then, option_map, option_map_or}
use Rattle.std.specs.List.{cons_option, filter_map, range_with_len}
use Rattle.std.proofs.lemmas.Bool.{cases_Bool, false≢true}
use Rattle.std.proofs.lemmas.List.{append-nil, append_assoc, length-map}
use Rattle.std.proofs.Math.ListN.{get_or-map}
use Rattle.std.proofs.lemmas.List.FromFn.{length-map-range_with_len, get_or-map-range_with_len}
use Rattle.std.proofs.lemmas.Option.{option_and_then_some}
use Rattle.pct_ask.specs.declared.ask.Ask.{Ask}
use Rattle.pct_ask.specs.declared.ask.Ask.TheVariants as asks
use Rattle.pct_ask.specs.declared.ask.Post.{Post}
use Rattle.pct_ask.specs.declared.event.Event.{Event}
use Rattle.pct_ask.specs.declared.Deal.{Deal}
use Rattle.pct_ask.specs.declared.verdict.Verdict.{Verdict}
use Rattle.pct_ask.specs.declared.verdict.Outcome.{Outcome}
use Rattle.sync_store.specs.Store.{StoreState, first_store}
use Rattle.sync_store.specs.Enabled.{enabled}
use Rattle.sync_store.specs.Ready.{join_target, unknown_target, ready_by, readiness}
use Rattle.sync_store.specs.World.{Source, World, has_ended, world_by_step, world_from}
use Rattle.policy_pick.specs.declared.chance.Chance.{Chance}
use Rattle.policy_pick.specs.declared.chance.Chance.TheVariants.{Away, Ready as Goes, Blocked}
use Rattle.policy_pick.specs.declared.chance.Chance.TheVariants.{Unknown, Ended}
use Rattle.policy_pick.specs.declared.chance.Pick.{Pick}
use Rattle.policy_pick.specs.declared.chance.Pick.TheVariants.{Thread, Waits, Nobody, Departs}
use Rattle.policy_pick.specs.Plan.{Plan, SpeaksOf}
use Rattle.policy_pick.specs.Choice.{choice, chance_of, is_open, is_known, IsSoundPick, IsWaits}
use Rattle.policy_pick.specs.Choice.{MayDepart, KeepsKnown, HasAwayTarget, TargetsAreAway}
use Rattle.policy_pick.specs.Laws.{choice-keeps, choice-sound}
use Rattle.policy_pick.specs.Laws.Chances.{closed-known}
use Rattle.turn_book.specs.Chances.{NextPosts, is_unknown, is_ended, chance_by, chance_of_ask}
use Rattle.turn_book.specs.Chances.{chance_of_post, chance, chances, blocked_by_post, blocked_at}
use Rattle.turn_book.specs.Chances.{verdict_of_blocked, rest_verdict}
use Rattle.turn_book.specs.Posts.{schedule_of, KeepsPosts}
use Rattle.turn_book.specs.Obeys.{next_posts_in, choice_in, choice_after, Obeys, outcome_by_pick}
use Rattle.turn_book.specs.Obeys.{outcome_by, outcome_in, outcome_after}
use Rattle.turn_book.proofs.laws.Worlds.{Steps, steps-from, step-is, grows, IsMade, made-from}
use Rattle.turn_book.proofs.laws.Worlds.{made-events, passes}

-- ---- asks
-- whether an ask is enabled depends on who has ended only at the thread that it joins
pub enabled-same : (store : StoreState) (one other : ℕ → Bool) (t : ℕ) (ask : Ask)
    → ((u : ℕ) → join_target ask ≡ Some u → one u ≡ other u)
    → enabled store one t ask ≡ enabled store other t ask
enabled-same store one other t (asks.Join u) same = same u refl
enabled-same store one other t ask same = refl

-- and it stays enabled as more threads are known to have ended
pub enabled-more : (store : StoreState) (earlier later : ℕ → Bool) (t : ℕ) (ask : Ask)
    → ((u : ℕ) → earlier u ≡ true → later u ≡ true) → enabled store earlier t ask ≡ true
    → enabled store later t ask ≡ true
enabled-more store earlier later t (asks.Join u) more is = more u is
enabled-more store earlier later t ask more is = is

target-same : (one other : ℕ → Bool) (target : Option ℕ)
    → ((u : ℕ) → target ≡ Some u → one u ≡ other u)
    → unknown_target one target ≡ unknown_target other target
target-same one other None same = refl
target-same one other (Some u) same = ap (λ b. cond b (Some u) None) (same u refl)

-- what is known of an ask depends on the other threads only at the one that it joins
pub readiness-same : (store : StoreState) (away ended away_too ended_too : ℕ → Bool) (t : ℕ)
    (ask : Ask)
    → ((u : ℕ) → join_target ask ≡ Some u → (away u ≡ away_too u) × (ended u ≡ ended_too u))
    → readiness store away ended t ask ≡ readiness store away_too ended_too t ask
readiness-same store away ended away_too ended_too t ask same =
    ap (λ target. ready_by target (enabled store ended t ask))
    (target-same away away_too (join_target ask) (λ u e. (same u e).0))
    ∙ ap (ready_by (unknown_target away_too (join_target ask)))
    (enabled-same store ended ended_too t ask (λ u e. (same u e).1))

unknown-target : (store : StoreState) (away ended : ℕ → Bool) (t u : ℕ) (ask : Ask)
    → join_target ask ≡ Some u → away u ≡ true
    → is_known (chance_by (readiness store away ended t ask)) ≡ false
unknown-target store away ended t u ask joins is =
    ap (λ target. is_known (chance_by
    (ready_by (unknown_target away target) (enabled store ended t ask)))) joins
    ∙ ap (λ b. is_known (chance_by (ready_by (cond b (Some u) None) (enabled store ended t ask))))
    is

-- ---- more posts are known
abbrev pub KeepsNext : NextPosts → NextPosts → Type 0
KeepsNext earlier later = (t : ℕ) (post : Post) → earlier t ≡ Some post → later t ≡ Some post

some-of : (o : Option Post) → is_none o ≡ false → (post : Post) × (o ≡ Some post)
some-of None e = absurd cc
some-of (Some post) e = (post, refl)

module _ (earlier later : NextPosts) (keeps : KeepsNext earlier later) where
  ended-by : (u : ℕ) (o : Option Post) → earlier u ≡ o
      → option_map_or (λ post. is_none post.ask) o false ≡ true → is_ended later u ≡ true
  ended-by u None e h = absurd cc
  ended-by u (Some post) e h =
      ap (λ o. option_map_or (λ (p : Post). is_none p.ask) o false) (keeps u post e) ∙ h

  pub ended-more : (u : ℕ) → is_ended earlier u ≡ true → is_ended later u ≡ true
  ended-more u h = ended-by u (earlier u) refl h

  known-target : (u : ℕ) → is_unknown earlier u ≡ false
      → (is_unknown later u ≡ is_unknown earlier u) × (is_ended later u ≡ is_ended earlier u)
  known-target u known =
      let w = some-of (earlier u) known in
      let same : later u ≡ earlier u = keeps u w.0 w.1 ∙ sym w.1 in
      (ap is_none same, ap (λ o. option_map_or (λ (post : Post). is_none post.ask) o false) same)

  module _ (store : StoreState) where
    known-ask : (t : ℕ) (ask : Option Ask)
        → is_known (chance_of_ask store (is_unknown earlier) (is_ended earlier) t ask) ≡ true
        → chance_of_ask store (is_unknown later) (is_ended later) t ask
        ≡ chance_of_ask store (is_unknown earlier) (is_ended earlier) t ask
    known-ask t None known = refl
    known-ask t (Some ask) known = ap chance_by
        (readiness-same store (is_unknown later) (is_ended later) (is_unknown earlier)
        (is_ended earlier) t ask (λ u joins. elim (cases_Bool (is_unknown earlier u)) [
          | inl away ↦ absurd (false≢true (sym
              (unknown-target store (is_unknown earlier) (is_ended earlier) t u ask joins away)
              ∙ known))
          | inr here ↦ known-target u here
        ]))

    known-post : (t : ℕ) (post : Option Post) → earlier t ≡ post
        → is_known (chance_of_post store (is_unknown earlier) (is_ended earlier) t post) ≡ true
        → chance_of_post store (is_unknown later) (is_ended later) t (later t)
        ≡ chance_of_post store (is_unknown earlier) (is_ended earlier) t post
    known-post t None e known = absurd (false≢true known)
    known-post t (Some post) e known =
        ap (chance_of_post store (is_unknown later) (is_ended later) t) (keeps t post e)
        ∙ known-ask t post.ask known

    -- a known chance stays
    pub chance-more : (t : ℕ) → is_known (chance store earlier t) ≡ true
        → chance store later t ≡ chance store earlier t
    chance-more t known = known-post t (earlier t) refl known

    pub chances-more : (threads : ℕ) → KeepsKnown (chances threads store earlier)
        (chances threads store later)
    chances-more threads = record {
      threads =
          length-map-range_with_len (chance store later) 0 threads
          ∙ sym (length-map-range_with_len (chance store earlier) 0 threads);
      known = λ t within known.
          let there : t < threads = omega
          (arith, length-map-range_with_len (chance store earlier) 0 threads) in
          let was = get_or-map-range_with_len (chance store earlier) 0 threads t t Ended there
          (omega arith) in
          let is = get_or-map-range_with_len (chance store later) 0 threads t t Ended there
          (omega arith) in
          is ∙ chance-more t (sym (ap is_known was) ∙ known) ∙ sym was;
    }

    -- a choice that waits for nobody stays
    pub choice-more : (plan : Plan) (schedule : List ℕ) (threads : ℕ)
        → ¬ IsWaits (choice plan schedule (chances threads store earlier))
        → choice plan schedule (chances threads store later)
        ≡ choice plan schedule (chances threads store earlier)
    choice-more plan schedule threads waits =
        choice-keeps plan schedule (chances threads store earlier) (chances threads store later)
        (chances-more threads) waits

-- ---- where nobody goes, every thread is known
-- a thread whose target isn't known, seen as one that isn't known itself
abbrev as_away : Chance → Chance
as_away Away = Away
as_away Goes = Goes
as_away Blocked = Blocked
as_away (Unknown target) = Away
as_away Ended = Ended

as_away-known : (c : Chance) → is_known c ≡ true → as_away c ≡ c
as_away-known Away e = refl
as_away-known Goes e = refl
as_away-known Blocked e = refl
as_away-known (Unknown target) e = absurd (false≢true e)
as_away-known Ended e = refl

as_away-open : (c : Chance) → is_open (as_away c) ≡ is_open c
as_away-open Away = refl
as_away-open Goes = refl
as_away-open Blocked = refl
as_away-open (Unknown target) = refl
as_away-open Ended = refl

as_away-target : (chances : List Chance) (c : Chance) → HasAwayTarget chances (as_away c)
as_away-target chances Away = tt
as_away-target chances Goes = tt
as_away-target chances Blocked = tt
as_away-target chances (Unknown target) = tt
as_away-target chances Ended = tt

-- a choice that waits for nobody is sound, whatever the targets are
sound-anyway : (plan : Plan) (schedule : List ℕ) (all : List Chance) → SpeaksOf plan (length all)
    → ¬ IsWaits (choice plan schedule all)
    → IsSoundPick plan (map as_away all) (choice plan schedule all)
sound-anyway plan schedule all speaks waits =
    let away = map as_away all in
    let long : length away ≡ length all = length-map all as_away in
    let at : (u : ℕ) → chance_of away u ≡ as_away (chance_of all u) =
    λ u. get_or-map as_away all u Ended in
    let keeps : KeepsKnown all away = record {
      threads = long;
      known = λ u there known. at u ∙ as_away-known (chance_of all u) known;
    } in
    let still : choice plan schedule away ≡ choice plan schedule all =
    choice-keeps plan schedule all away keeps waits in
    let Target : Chance → Type 0 = HasAwayTarget away in
    let targets : TargetsAreAway away =
    λ u there. subst Target (sym (at u)) (as_away-target away (chance_of all u)) in
    let P : Pick → Type 0 = IsSoundPick plan away in
    let Speaks : ℕ → Type 0 = SpeaksOf plan in
    subst P still (choice-sound plan schedule away (subst Speaks (sym long) speaks) targets)

abbrev NoWait : Pick → Type 0
NoWait pick = ¬ IsWaits pick

pub nobody-closed : (plan : Plan) (schedule : List ℕ) (all : List Chance)
    → SpeaksOf plan (length all) → choice plan schedule all ≡ Nobody → (t : ℕ) → t < length all
    → is_open (chance_of all t) ≡ false
nobody-closed plan schedule all speaks nobody t within =
    let P : Pick → Type 0 = IsSoundPick plan (map as_away all) in
    let closed = subst P nobody (sound-anyway plan schedule all speaks
    (subst NoWait (sym nobody) (λ h. h))) in
    sym (as_away-open (chance_of all t)) ∙ sym (ap is_open (get_or-map as_away all t Ended))
    ∙ closed t (omega (arith, length-map all as_away))

as_away-ready : (c : Chance) → as_away c ≡ Goes → c ≡ Goes
as_away-ready Away e = e
as_away-ready Goes e = e
as_away-ready Blocked e = e
as_away-ready (Unknown target) e = absurd cc
as_away-ready Ended e = e

-- a chosen thread is there, and Ready
pub chosen-ready : (plan : Plan) (schedule : List ℕ) (all : List Chance) (t : ℕ)
    → SpeaksOf plan (length all) → choice plan schedule all ≡ Thread t
    → (t < length all) × (chance_of all t ≡ Goes)
chosen-ready plan schedule all t speaks chosen =
    let P : Pick → Type 0 = IsSoundPick plan (map as_away all) in
    let sound = subst P chosen (sound-anyway plan schedule all speaks
    (subst NoWait (sym chosen) (λ h. h))) in (
      omega (arith, sound.0, length-map all as_away),
      as_away-ready (chance_of all t) (sym (get_or-map as_away all t Ended) ∙ sound.1),
    )

-- only a list is departed from
pub departs-may : (plan : Plan) (schedule : List ℕ) (all : List Chance) (t : ℕ)
    → SpeaksOf plan (length all) → choice plan schedule all ≡ Departs t → MayDepart plan
departs-may plan schedule all t speaks departs =
    let P : Pick → Type 0 = IsSoundPick plan (map as_away all) in
    (subst P departs (sound-anyway plan schedule all speaks
    (subst NoWait (sym departs) (λ h. h)))).0

filter_map-same : {X : Type 0} (f g : ℕ → Option X) (from many : ℕ)
    → ((k : ℕ) → from ≤ k → k < from + many → f k ≡ g k)
    → filter_map f (range_with_len from many) ≡ filter_map g (range_with_len from many)
filter_map-same f g from zero same = refl
filter_map-same f g from (suc many) same =
    let rest = filter_map-same f g (from + 1) many
    (λ k low high. same k (omega arith) (omega arith)) in
    let one = same from (omega arith) (omega arith) in
    λ j. cons_option (one j) (rest j)

known-is : (store : StoreState) (away ended : ℕ → Bool) (t : ℕ) (post : Option Post)
    → is_known (chance_of_post store away ended t post) ≡ true → (p : Post) × (post ≡ Some p)
known-is store away ended t None known = absurd (false≢true known)
known-is store away ended t (Some post) known = (post, refl)

-- how a run ends where nobody may go on stays
pub rest-more : (plan : Plan) (schedule : List ℕ) (threads : ℕ) (store : StoreState)
    (earlier later : NextPosts) → KeepsNext earlier later → SpeaksOf plan threads
    → choice plan schedule (chances threads store earlier) ≡ Nobody
    → rest_verdict threads store later ≡ rest_verdict threads store earlier
rest-more plan schedule threads store earlier later keeps speaks nobody =
    let all = chances threads store earlier in
    let long = length-map-range_with_len (chance store earlier) 0 threads in
    let Speaks : ℕ → Type 0 = SpeaksOf plan in
    let same : (t : ℕ) → 0 ≤ t → t < 0 + threads
    → blocked_at store later t ≡ blocked_at store earlier t = λ t low high.
    let there : t < threads = omega arith in
    let closed = nobody-closed plan schedule all (subst Speaks (sym long) speaks) nobody t
    (omega arith) in
    let at : chance_of all t ≡ chance store earlier t =
    get_or-map-range_with_len (chance store earlier) 0 threads t t Ended there (omega arith) in
    let post = known-is store (is_unknown earlier) (is_ended earlier) t (earlier t)
    (sym (ap is_known at) ∙ closed-known (chance_of all t) closed) in
    ap (blocked_by_post store t) (keeps t post.0 post.1 ∙ sym post.1) in
    ap verdict_of_blocked (filter_map-same (blocked_at store later) (blocked_at store earlier) 0
    threads same)

-- ---- worlds
pub steps-more : (earlier later : Source) (world next : World) (t : ℕ)
    → KeepsNext (next_posts_in earlier world) (next_posts_in later world)
    → Steps earlier world t next → Steps later world t next
steps-more earlier later world next t keeps steps = record {
  post = steps.post;
  ask = steps.ask;
  runs = steps.runs;
  posted = keeps t steps.post steps.posted;
  asks = steps.asks;
  goes =
      enabled-more world.store (has_ended earlier world.events) (has_ended later world.events) t
      steps.ask (ended-more (next_posts_in earlier world) (next_posts_in later world) keeps)
      steps.goes;
  next_is = steps.next_is;
}

abbrev KeepsAt : Source → Source → List Event → Type 0
KeepsAt earlier later events = (t : ℕ) (post : Post) → earlier t events ≡ Some post
    → later t events ≡ Some post

world-more : (earlier later : Source) (schedule : List ℕ) (world last : World)
    → ((before after : List Event) → last.events ≡ before ++ after → KeepsAt earlier later before)
    → world_from earlier world schedule ≡ Some last → world_from later world schedule ≡ Some last
world-more earlier later [] world last keeps e = e
world-more earlier later (t ∷ schedule) world last keeps e =
    let whole = grows earlier (t ∷ schedule) world last e in
    option_and_then_some (λ next. world_from earlier next schedule) (world_by_step earlier world t)
    last e (λ next first rest.
    let steps = steps-more earlier later world next t (keeps world.events whole.more whole.events)
    (steps-from earlier world t next first) in
    ap (option_and_then (λ next. world_from later next schedule)) (step-is later world t next steps)
    ∙ world-more earlier later schedule next last keeps rest)

pub made-more : (store : StoreState) (earlier later : Source) (events : List Event) (world : World)
    → KeepsPosts events earlier later → IsMade store earlier events world
    → IsMade store later events world
made-more store earlier later events world keeps made = record {
  at =
      world-more earlier later (schedule_of events)
      (record { store = store; events = []; verdict = None }) world
      (λ before after e t post. keeps before after t post (sym made.trace ∙ e)) made.at;
  trace = made.trace;
}

-- the posts known after the last of the steps
pub keeps-next : (earlier later : Source) (events : List Event) (world : World)
    → KeepsPosts events earlier later → world.events ≡ events
    → KeepsNext (next_posts_in earlier world) (next_posts_in later world)
keeps-next earlier later events world keeps is =
    let P : List Event → Type 0 = λ es. KeepsAt earlier later es in
    subst P (sym is) (λ t post. keeps events [] t post (sym (append-nil events)))

pub keeps-front : (earlier later : Source) (before after : List Event)
    → KeepsPosts (before ++ after) earlier later → KeepsPosts before earlier later
keeps-front earlier later before after keeps front rest t post e =
    keeps front (rest ++ after) t post (ap (λ l. l ++ after) e ∙ append_assoc front rest after)

-- ---- choices and outcomes
module _ (plan : Plan) (deal : Deal) where
  pub choice-at : (source : Source) (events : List Event) (world : World)
      → IsMade (first_store deal) source events world
      → choice_after plan deal source (schedule_of events)
      ≡ Some (choice_in plan deal.threads source (schedule_of events) world)
  choice-at source events world made =
      ap (option_map (choice_in plan deal.threads source (schedule_of events))) made.at

  pub settled-at : (source : Source) (limit : ℕ) (events : List Event) (world : World)
      → IsMade (first_store deal) source events world
      → outcome_after plan deal source limit events
      ≡ outcome_in plan deal.threads source (eqb (length events) limit) (schedule_of events) world
  settled-at source limit events world made =
      ap (option_and_then (outcome_in plan deal.threads source (eqb (length events) limit)
      (schedule_of events))) made.at

  -- Steps that obey a plan over some posts obey it over more posts.
  pub obeys-more : (earlier later : Source) (limit : ℕ) (events : List Event)
      → KeepsPosts events earlier later → Obeys plan deal earlier limit events
      → Obeys plan deal later limit events
  obeys-more earlier later limit events keeps obeys =
      let w = made-from (first_store deal) earlier events obeys.made in
      record {
        chosen = λ before after e cut.
            let P : List Event → Type 0 = λ es. KeepsPosts es earlier later in
            let M : List Event → Type 0 = λ es. IsMade (first_store deal) earlier es w.0 in
            let p = passes (first_store deal) earlier before (e ∷ after) w.0 (subst M cut w.1) in
            let front = keeps-front earlier later before (e ∷ after) (subst P cut keeps) in
            let was : choice_in plan deal.threads earlier (schedule_of before) p.world
            ≡ Thread e.thread = let both = sym (choice-at earlier before p.world p.made)
            ∙ obeys.chosen before after e cut in cc in
            let NoWait : Pick → Type 0 = λ p. ¬ IsWaits p in
            let still = choice-more (next_posts_in earlier p.world) (next_posts_in later p.world)
            (keeps-next earlier later before p.world front p.made.trace) (p.world).store plan
            (schedule_of before) deal.threads (subst NoWait (sym was) (λ h. h)) in
            choice-at later before p.world
            (made-more (first_store deal) earlier later before p.world front p.made)
            ∙ ap Some (still ∙ was);
        made =
            made-events (first_store deal) later events w.0
            (made-more (first_store deal) earlier later events w.0 keeps w.1);
        within = obeys.within;
      }

  outcome-waits : (verdict : Verdict) (full : Bool) (pick : Pick) (outcome : Outcome)
      → outcome_by_pick verdict full pick ≡ Some outcome → ¬ IsWaits pick
  outcome-waits verdict full (Thread t) outcome e h = h
  outcome-waits verdict full (Waits t) outcome e h = cc
  outcome-waits verdict full Nobody outcome e h = h
  outcome-waits verdict full (Departs t) outcome e h = h

  outcome-rest : (one other : Verdict) (full : Bool) (pick : Pick) → (pick ≡ Nobody → one ≡ other)
      → outcome_by_pick one full pick ≡ outcome_by_pick other full pick
  outcome-rest one other full (Thread t) same = refl
  outcome-rest one other full (Waits t) same = refl
  outcome-rest one other full Nobody same = ap (λ v. outcome_by_pick v full Nobody) (same refl)
  outcome-rest one other full (Departs t) same = refl

  module _ (earlier later : Source) (limit : ℕ) (schedule : List ℕ) (world : World)
      (speaks : SpeaksOf plan deal.threads)
      (keeps : KeepsNext (next_posts_in earlier world) (next_posts_in later world)) (full : Bool)
      (outcome : Outcome) where
    outcome-by-more : (verdict : Option Verdict) → world.verdict ≡ verdict
        → outcome_by verdict (outcome_by_pick
        (rest_verdict deal.threads world.store (next_posts_in earlier world)) full
        (choice_in plan deal.threads earlier schedule world)) ≡ Some outcome
        → outcome_by verdict (outcome_by_pick
        (rest_verdict deal.threads world.store (next_posts_in later world)) full
        (choice_in plan deal.threads later schedule world)) ≡ Some outcome
    outcome-by-more (Some verdict) is e = e
    outcome-by-more None is e =
        let waits = outcome-waits (rest_verdict deal.threads world.store
        (next_posts_in earlier world)) full (choice_in plan deal.threads earlier schedule world)
        outcome e in
        let still = choice-more (next_posts_in earlier world) (next_posts_in later world) keeps
        world.store plan schedule deal.threads waits in
        ap (outcome_by_pick (rest_verdict deal.threads world.store (next_posts_in later world))
        full) still
        ∙ outcome-rest (rest_verdict deal.threads world.store (next_posts_in later world))
        (rest_verdict deal.threads world.store (next_posts_in earlier world)) full
        (choice_in plan deal.threads earlier schedule world)
        (λ nobody. rest-more plan schedule deal.threads world.store
        (next_posts_in earlier world) (next_posts_in later world) keeps speaks nobody)
        ∙ e

  -- An outcome over some posts is the outcome over more posts.
  pub settled-more : (earlier later : Source) (limit : ℕ) (events : List Event) (outcome : Outcome)
      → SpeaksOf plan deal.threads → KeepsPosts events earlier later
      → Obeys plan deal earlier limit events
      → outcome_after plan deal earlier limit events ≡ Some outcome
      → outcome_after plan deal later limit events ≡ Some outcome
  settled-more earlier later limit events outcome speaks keeps obeys settles =
      let w = made-from (first_store deal) earlier events obeys.made in
      settled-at later limit events w.0
      (made-more (first_store deal) earlier later events w.0 keeps w.1)
      ∙ outcome-by-more earlier later limit (schedule_of events) w.0 speaks
      (keeps-next earlier later events w.0 keeps w.1.trace) (eqb (length events) limit) outcome
      (w.0).verdict refl (sym (settled-at earlier limit events w.0 w.1) ∙ settles)
