-- The list of a run's own threads makes that run again, and no run by a list is longer than the
-- list.
use Rattle.std.proofs.Common.{◌≡◌, ℕ, zero, suc, ◌<◌, ◌≤◌, Bool, true, false, eqb, Option, Some}
use Rattle.std.proofs.Common.{None, List, [], ◌∷◌, ◌++◌, length, refl, sym, ap, subst, ◌∙◌, arith}
use Rattle.std.proofs.Common.{inl, inr}
use Rattle.std.specs.Prelude.{slice_get}
use Rattle.std.specs.Option.{option_map}
use Rattle.std.proofs.lemmas.Bool.{cases_lt}
use Rattle.std.proofs.lemmas.List.{length-map}
use Rattle.std.proofs.lemmas.List.FromFn.{length-map-range_with_len}
use Rattle.std.proofs.lemmas.Option.{slice_get_past}
use Rattle.pct_ask.specs.declared.Deal.{Deal}
use Rattle.pct_ask.specs.declared.event.Event.{Event}
use Rattle.pct_ask.specs.declared.verdict.Verdict.{Verdict}
use Rattle.pct_ask.specs.declared.verdict.Outcome.TheVariants.{Verdict as Ends}
use Rattle.pct_ask.specs.Bodies.{Pending}
use Rattle.sync_store.specs.Store.{first_store}
use Rattle.sync_store.specs.World.{Source, World, world_after}
use Rattle.policy_pick.specs.declared.chance.Chance.{Chance}
use Rattle.policy_pick.specs.declared.chance.Chance.TheVariants.{Away, Ready, Blocked, Unknown}
use Rattle.policy_pick.specs.declared.chance.Chance.TheVariants.{Ended}
use Rattle.policy_pick.specs.declared.chance.Pick.{Pick}
use Rattle.policy_pick.specs.declared.chance.Pick.TheVariants.{Thread, Waits, Nobody, Departs}
use Rattle.policy_pick.specs.Plan.{Plan, ByList, SpeaksOf}
use Rattle.policy_pick.specs.Choice.{choice_by_list, choice_by_number, chance_of, is_open, pick_at}
use Rattle.policy_pick.specs.Choice.{IsWaits, MayDepart}
use Rattle.policy_pick.specs.Laws.Chances.{open-ready}
use Rattle.policy_pick.specs.Laws.Finds.{find-none, found-or-none}
use Rattle.policy_pick.specs.Laws.Walks.{number-stops, number-ends}
use Rattle.turn_book.specs.Chances.{chance, chances, rest_verdict}
use Rattle.turn_book.specs.Posts.{schedule_of}
use Rattle.turn_book.specs.Obeys.{next_posts_in, choice_in, choice_after, Obeys, outcome_by_pick}
use Rattle.turn_book.specs.Obeys.{outcome_by, outcome_after}
use Rattle.turn_book.proofs.laws.Worlds.{map-some, made-from}
use Rattle.turn_book.proofs.laws.MorePosts.{nobody-closed, chosen-ready, departs-may, settled-at}
use Rattle.worker_run.specs.Bodies.{source_of_bodies}
use Rattle.worker_run.specs.Played.{IsPlayed}
use Rattle.worker_run.proofs.laws.KnownPosts.{bodies-no-wait}

-- ---- after a list
at_goes : (u t : ℕ) (c : Chance) → pick_at (Departs u) u c ≡ Thread t → ⊥
at_goes u t Away e = cc
at_goes u t Ready e = cc
at_goes u t Blocked e = cc
at_goes u t (Unknown target) e = cc
at_goes u t Ended e = cc

abbrev open_at : List Chance → ℕ → Bool
open_at all t = is_open (chance_of all t)

-- nobody may go
number_goes : (all : List Chance) (t : ℕ) → choice_by_number all ≡ Thread t → ⊥
number_goes all t e = elim (found-or-none (open_at all) (length all)) [
  | inl w ↦ at_goes w.0 t (chance_of all w.0) (sym (number-stops all w.0 w.1) ∙ e)
  | inr w ↦ let both = sym (number-ends all w.0) ∙ e in cc
]

-- where no thread is open the run is at its end
number_closed : (all : List Chance) → ((t : ℕ) → t < length all → is_open (chance_of all t) ≡ false)
    → choice_by_number all ≡ Nobody
number_closed all closed =
    number-ends all (find-none (open_at all) 0 (length all) (λ k low high. closed k (omega arith)))

-- and where one is, the run departs, unless it waits
number_open : (all : List Chance) (t : ℕ) → t < length all → is_open (chance_of all t) ≡ true
    → ¬ IsWaits (choice_by_number all) → (u : ℕ) × (choice_by_number all ≡ Departs u)
number_open all t within goes waits = elim (found-or-none (open_at all) (length all)) [
  | inl w ↦
      let is = number-stops all w.0 w.1 in
      let NoWait : Pick → Type 0 = λ p. ¬ IsWaits p in
      let ready = open-ready (Departs w.0) w.0 (chance_of all w.0) w.2.passes
      (subst NoWait is waits) in
      (w.0, is ∙ ap (pick_at (Departs w.0) w.0) ready)
  | inr w ↦ absurd (let both = sym goes ∙ w.1 t within in cc)
]

no_wait : (pick : Pick) → ((u : ℕ) → pick ≡ Waits u → ⊥) → ¬ IsWaits pick
no_wait (Thread t) waits h = h
no_wait (Waits u) waits h = waits u refl
no_wait Nobody waits h = h
no_wait (Departs u) waits h = h

-- ---- no run by a list is longer than the list
record CutAt (events : List Event) (k : ℕ) : Type 0 where
  pub before : List Event
  pub event : Event
  pub after : List Event
  pub cut : events ≡ before ++ event ∷ after
  pub long : length before ≡ k

cut_at : (events : List Event) (k : ℕ) → k < length events → CutAt events k
cut_at [] k within = absurd (omega arith)
cut_at (e ∷ events) zero within = record {
  before = [];
  event = e;
  after = events;
  cut = refl;
  long = refl;
}
cut_at (e ∷ events) (suc k) within =
    let rest = cut_at events k (omega arith) in
    record {
      before = e ∷ rest.before;
      event = rest.event;
      after = rest.after;
      cut = ap (λ es. e ∷ es) rest.cut;
      long = ap suc rest.long;
    }

pub listed_short : (listed : List ℕ) (deal : Deal) (source : Source) (limit : ℕ)
    (events : List Event) → Obeys (ByList listed) deal source limit events
    → length events ≤ length listed
listed_short listed deal source limit events obeys =
    elim (cases_lt (length listed) (length events)) [
      | inl longer ↦
          let c = cut_at events (length listed) longer in
          let w = map-some (choice_in (ByList listed) deal.threads source (schedule_of c.before))
          (world_after (first_store deal) source (schedule_of c.before)) (Thread (c.event).thread)
          (obeys.chosen c.before c.after c.event c.cut) in
          let all = chances deal.threads (w.0).store (next_posts_in source w.0) in
          let past = slice_get_past listed (length (schedule_of c.before))
          (omega (arith, c.long, length-map c.before (λ (e : Event). e.thread))) in
          absurd (number_goes all (c.event).thread
          (sym (ap (λ next. choice_by_list next all) past) ∙ w.2))
      | inr short ↦ short
    ]

-- ---- a run's own threads
listed_at : (before after : List Event) (e : Event)
    → slice_get (schedule_of (before ++ e ∷ after)) (length (schedule_of before)) ≡ Some e.thread
listed_at [] after e = refl
listed_at (x ∷ before) after e = listed_at before after e

module _ (plan : Plan) (deal : Deal) (bodies : List Pending) (limit : ℕ) (events : List Event)
    (speaks : SpeaksOf plan deal.threads) (stays : ¬ MayDepart plan)
    (speaks_too : SpeaksOf (ByList (schedule_of events)) deal.threads)
    (obeys : Obeys plan deal (source_of_bodies bodies) limit events) where
  abbrev again : Plan
  again = ByList (schedule_of events)

  abbrev source : Source
  source = source_of_bodies bodies

  abbrev all_in : World → List Chance
  all_in world = chances deal.threads world.store (next_posts_in source world)

  long : (world : World) → length (all_in world) ≡ deal.threads
  long world =
      length-map-range_with_len (chance world.store (next_posts_in source world)) 0 deal.threads

  speaks_in : (world : World) → SpeaksOf plan (length (all_in world))
  speaks_in world = let Speaks : ℕ → Type 0 = SpeaksOf plan in
      subst Speaks (sym (long world)) speaks

  -- at each step the listed thread may go
  chosen_again : (before after : List Event) (e : Event) → events ≡ before ++ e ∷ after
      → choice_after again deal source (schedule_of before) ≡ Some (Thread e.thread)
  chosen_again before after e cut =
      let w = map-some (choice_in plan deal.threads source (schedule_of before))
      (world_after (first_store deal) source (schedule_of before)) (Thread e.thread)
      (obeys.chosen before after e cut) in
      let ready = chosen-ready plan (schedule_of before) (all_in w.0) e.thread (speaks_in w.0)
      w.2 in
      let at : slice_get (schedule_of events) (length (schedule_of before)) ≡ Some e.thread =
      ap (λ es. slice_get (schedule_of es) (length (schedule_of before))) cut
      ∙ listed_at before after e in
      ap (option_map (choice_in again deal.threads source (schedule_of before))) w.1
      ∙ ap (λ next. Some (choice_by_list next (all_in w.0))) at
      ∙ ap (λ c. Some (pick_at (Thread e.thread) e.thread c)) ready.1

  module _ (verdict : Verdict) (world : World) where
    abbrev all : List Chance
    all = all_in world

    abbrev rest : Verdict
    rest = rest_verdict deal.threads world.store (next_posts_in source world)

    abbrev last : List ℕ
    last = schedule_of events

    -- the list is at its end
    after_list : choice_in again deal.threads source last world ≡ choice_by_number all
    after_list =
        ap (λ next. choice_by_list next all) (slice_get_past last (length last) (omega arith))

    waits_not : ¬ IsWaits (choice_by_number all)
    waits_not = let NoWait : Pick → Type 0 = λ p. ¬ IsWaits p in
        subst NoWait after_list (no_wait (choice_in again deal.threads source last world)
        (λ u waits. bodies-no-wait deal bodies last world again u speaks_too waits))

    ends_by : (over : Option Verdict) (full : Bool) (pick : Pick)
        → choice_in plan deal.threads source last world ≡ pick
        → outcome_by over (outcome_by_pick rest full pick) ≡ Some (Ends verdict)
        → outcome_by over (outcome_by_pick rest full
        (choice_in again deal.threads source last world)) ≡ Some (Ends verdict)
    ends_by (Some reached) full pick is e = e
    ends_by None full Nobody is e =
        ap (outcome_by_pick rest full) (after_list
        ∙ number_closed all (nobody-closed plan last all (speaks_in world) is)) ∙ e
    ends_by None true (Thread t) is e =
        let ready = chosen-ready plan last all t (speaks_in world) is in
        let departs = number_open all t ready.0 (ap is_open ready.1) waits_not in
        ap (outcome_by_pick rest true) (after_list ∙ departs.1) ∙ e
    ends_by None false (Thread t) is e = absurd cc
    ends_by None full (Waits u) is e = absurd cc
    ends_by None full (Departs u) is e =
        absurd (stays (departs-may plan last all u (speaks_in world) is))

  settled_again : (verdict : Verdict)
      → outcome_after plan deal source limit events ≡ Some (Ends verdict)
      → outcome_after again deal source limit events ≡ Some (Ends verdict)
  settled_again verdict ends =
      let w = made-from (first_store deal) source events obeys.made in
      settled-at again deal source limit events w.0 w.1
      ∙ ends_by verdict w.0 (w.0).verdict (eqb (length events) limit)
      (choice_in plan deal.threads source (schedule_of events) w.0) refl
      (sym (settled-at plan deal source limit events w.0 w.1) ∙ ends)

-- A run by a plan that nobody can depart from, with a verdict, is the run by the list of its own
-- threads.
pub listed_again : (plan : Plan) (deal : Deal) (bodies : List Pending) (limit : ℕ)
    (events : List Event) (verdict : Verdict) → SpeaksOf plan deal.threads → ¬ MayDepart plan
    → SpeaksOf (ByList (schedule_of events)) deal.threads
    → IsPlayed plan deal bodies limit events (Ends verdict)
    → IsPlayed (ByList (schedule_of events)) deal bodies limit events (Ends verdict)
listed_again plan deal bodies limit events verdict speaks stays speaks_too played = record {
  obeys = record {
    chosen = chosen_again plan deal bodies limit events speaks stays speaks_too played.obeys;
    made = (played.obeys).made;
    within = (played.obeys).within;
  };
  ends =
      settled_again plan deal bodies limit events speaks stays speaks_too played.obeys verdict
      played.ends;
}
