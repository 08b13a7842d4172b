-- Where every thread's next post is known, the walk by falling rank picks the enabled thread of the
-- greatest rank.
use Rattle.std.proofs.Common.{◌≡◌, ℕ, zero, suc, ◌+◌, ◌<◌, ◌≤◌, Bool, true, false, cond, not, ◌&&◌}
use Rattle.std.proofs.Common.{◌||◌, leb, Option, Some, None, List, length, get_or, refl, sym, ap}
use Rattle.std.proofs.Common.{subst, ◌∙◌, arith, inl, inr}
use Rattle.std.specs.Option.{option_map_or}
use Rattle.std.specs.List.{find, list_all, range_with_len}
use Rattle.std.proofs.lemmas.List.FromFn.{length-map-range_with_len, get_or-map-range_with_len}
use Rattle.pct_ask.specs.declared.ask.Ask.{Ask}
use Rattle.pct_ask.specs.declared.ask.Post.{Post}
use Rattle.pct_ask.specs.declared.Deal.{Deal}
use Rattle.pct_ask.specs.Bodies.{Pending, pending_of}
use Rattle.rank_now.specs.declared.moment.Moment.{Moment}
use Rattle.rank_now.specs.Rank.{rank, rank_by_moments, ranks, ranks_by_moments}
use Rattle.sync_store.specs.declared.ready.Ready.TheVariants.{Yes, No}
use Rattle.sync_store.specs.Store.{StoreState}
use Rattle.sync_store.specs.Enabled.{enabled}
use Rattle.sync_store.specs.Ready.{join_target, unknown_target, ready_by}
use Rattle.sync_store.specs.World.{World, answers_of}
use Rattle.policy_pick.specs.declared.chance.Chance.{Chance}
use Rattle.policy_pick.specs.declared.chance.Chance.TheVariants.{Away, Ready, Blocked, Unknown}
use Rattle.policy_pick.specs.declared.chance.Chance.TheVariants.{Ended}
use Rattle.policy_pick.specs.declared.chance.Pick.{Pick}
use Rattle.policy_pick.specs.declared.chance.Pick.TheVariants.{Thread, Waits, Nobody}
use Rattle.policy_pick.specs.Plan.{Plan, ByPoints, ByMoments, SpeaksOf}
use Rattle.policy_pick.specs.Choice.{choice, choice_by_rank, chance_of, is_open, is_known}
use Rattle.policy_pick.specs.Choice.{is_highest, pick_at, threads_of_chances, HasAwayTarget}
use Rattle.policy_pick.specs.Choice.{TargetsAreAway, IsSoundPick}
use Rattle.policy_pick.specs.Laws.{choice-sound}
use Rattle.policy_pick.specs.Laws.Finds.{found-or-none}
use Rattle.policy_pick.specs.Laws.Walks.{rank-stops, rank-ends, highest-parts}
use Rattle.turn_book.specs.Chances.{NextPosts, is_unknown, is_ended, chance_by, chance_of_ask}
use Rattle.turn_book.specs.Chances.{chance, chances, threads_below}
use Rattle.turn_book.specs.Obeys.{choice_in}
use Rattle.worker_run.specs.Bodies.{source_of_bodies}
use Rattle.worker_run.specs.Run.{next_thread}

-- ---- lists of numbers
all-same : (f g : ℕ → Bool) (from many : ℕ) → ((k : ℕ) → from ≤ k → k < from + many → f k ≡ g k)
    → list_all f (range_with_len from many) ≡ list_all g (range_with_len from many)
all-same f g from zero same = refl
all-same f g from (suc many) same =
    let one = same from (omega arith) (omega arith) in
    let rest = all-same f g (from + 1) many (λ k low high. same k (omega arith) (omega arith)) in
    λ j. one j && rest j

find-same : (f g : ℕ → Bool) (from many : ℕ) → ((k : ℕ) → from ≤ k → k < from + many → f k ≡ g k)
    → find f (range_with_len from many) ≡ find g (range_with_len from many)
find-same f g from zero same = refl
find-same f g from (suc many) same =
    let one = same from (omega arith) (omega arith) in
    let rest = find-same f g (from + 1) many (λ k low high. same k (omega arith) (omega arith)) in
    λ j. cond (one j) (Some from) (rest j)

-- ---- chances
no-target : (target : Option ℕ) → unknown_target (λ u. false) target ≡ None
no-target None = refl
no-target (Some u) = refl

open-by : (goes : Bool) → is_open (chance_by (cond goes Yes No)) ≡ goes
open-by true = refl
open-by false = refl

known-by : (goes : Bool) → is_known (chance_by (cond goes Yes No)) ≡ true
known-by true = refl
known-by false = refl

pub ready-by : (c : Chance) → is_open c ≡ true → is_known c ≡ true → c ≡ Ready
ready-by Away e known = cc
ready-by Ready e known = refl
ready-by Blocked e known = cc
ready-by (Unknown target) e known = cc
ready-by Ended e known = cc

target-by : (all : List Chance) (c : Chance) → is_known c ≡ true → HasAwayTarget all c
target-by all Away known = tt
target-by all Ready known = tt
target-by all Blocked known = tt
target-by all (Unknown target) known = cc
target-by all Ended known = tt

-- where every thread is known, no choice waits
pub known-no-wait : (plan : Plan) (schedule : List ℕ) (all : List Chance) (u : ℕ)
    → SpeaksOf plan (length all) → ((t : ℕ) → t < length all → is_known (chance_of all t) ≡ true)
    → choice plan schedule all ≡ Waits u → ⊥
known-no-wait plan schedule all u speaks known waits =
    let targets : TargetsAreAway all =
    λ t within. target-by all (chance_of all t) (known t within) in
    let P : Pick → Type 0 = IsSoundPick plan all in
    let sound = subst P waits (choice-sound plan schedule all speaks targets) in
    let here = known u sound.0 in
    let away = ap is_known sound.1 in
    cc

-- the pick of the next thread, if there is one
abbrev pub pick_of : Option ℕ → Pick
pick_of None = Nobody
pick_of (Some t) = Thread t

pub pick_of-thread : (next : Option ℕ) (t : ℕ) → pick_of next ≡ Thread t → next ≡ Some t
pick_of-thread None t e = cc
pick_of-thread (Some u) t e = let same : u ≡ t = cc in ap Some same

module _ (store : StoreState) (posts : ℕ → Post) where
  abbrev pub known : NextPosts
  known t = Some (posts t)

  abbrev goes : ℕ → Bool
  goes t = option_map_or (enabled store (is_ended known) t) (posts t).ask false

  open-ask : (t : ℕ) (ask : Option Ask)
      → is_open (chance_of_ask store (is_unknown known) (is_ended known) t ask)
      ≡ option_map_or (enabled store (is_ended known) t) ask false
  open-ask t None = refl
  open-ask t (Some ask) =
      ap (λ target. is_open (chance_by (ready_by target (enabled store (is_ended known) t ask))))
      (no-target (join_target ask))
      ∙ open-by (enabled store (is_ended known) t ask)

  known-ask : (t : ℕ) (ask : Option Ask)
      → is_known (chance_of_ask store (is_unknown known) (is_ended known) t ask) ≡ true
  known-ask t None = refl
  known-ask t (Some ask) =
      ap (λ target. is_known (chance_by (ready_by target (enabled store (is_ended known) t ask))))
      (no-target (join_target ask))
      ∙ known-by (enabled store (is_ended known) t ask)

  module _ (threads : ℕ) where
    abbrev all : List Chance
    all = chances threads store known

    long : length all ≡ threads
    long = length-map-range_with_len (chance store known) 0 threads

    chance-at : (t : ℕ) → t < threads → chance_of all t ≡ chance store known t
    chance-at t within =
        get_or-map-range_with_len (chance store known) 0 threads t t Ended within (omega arith)

    open-at : (t : ℕ) → t < threads → is_open (chance_of all t) ≡ goes t
    open-at t within = ap is_open (chance-at t within) ∙ open-ask t (posts t).ask

    pub known-at : (t : ℕ) → t < threads → is_known (chance_of all t) ≡ true
    known-at t within = ap is_known (chance-at t within) ∙ known-ask t (posts t).ask

    -- no choice waits
    pub no-wait : (plan : Plan) (schedule : List ℕ) (u : ℕ) → SpeaksOf plan threads
        → choice plan schedule all ≡ Waits u → ⊥
    no-wait plan schedule u speaks waits =
        let Speaks : ℕ → Type 0 = SpeaksOf plan in
        known-no-wait plan schedule all u (subst Speaks (sym long) speaks)
        (λ t within. known-at t (omega (arith, long))) waits

    module _ (ranks : List ℕ) (value : ℕ → ℕ)
        (same : (t : ℕ) → t < threads → get_or ranks t 0 ≡ value t) where
      -- enabled, and no enabled thread has a greater value
      abbrev leads : ℕ → Bool
      leads t =
          goes t && list_all (λ other. not (goes other) || leb (value other) (value t))
          (threads_below threads)

      highest-leads : (t : ℕ) → t < threads → leads t ≡ is_highest ranks all t
      highest-leads t within =
          let one = sym (open-at t within) in
          let each = all-same (λ other. not (goes other) || leb (value other) (value t))
          (λ other. not (is_open (chance_of all other))
          || leb (get_or ranks other 0) (get_or ranks t 0)) 0 threads (λ k low high.
          let there : k < threads = omega arith in
          let opens = sym (open-at k there) in
          let mine = sym (same t within) in
          let other = sym (same k there) in
          λ j. not (opens j) || leb (other j) (mine j)) in
          let whole = ap (λ n. list_all (λ other. not (is_open (chance_of all other))
          || leb (get_or ranks other 0) (get_or ranks t 0)) (range_with_len 0 n)) (sym long) in
          λ j. one j && (each ∙ whole) j

      first-leads : find leads (threads_below threads)
          ≡ find (is_highest ranks all) (threads_of_chances all)
      first-leads =
          find-same leads (is_highest ranks all) 0 threads
          (λ k low high. highest-leads k (omega arith))
          ∙ ap (λ n. find (is_highest ranks all) (range_with_len 0 n)) (sym long)

      pub rank-picks : choice_by_rank ranks all ≡ pick_of (find leads (threads_below threads))
      rank-picks = elim (found-or-none (is_highest ranks all) (length all)) [
        | inl w ↦
            let there : w.0 < threads = omega (arith, w.2.within, long) in
            let ready = ready-by (chance_of all w.0) (highest-parts ranks all w.0 w.2.passes).0
            (known-at w.0 there) in
            rank-stops ranks all w.0 w.1 ∙ ap (pick_at (Thread w.0) w.0) ready
            ∙ sym (ap pick_of (first-leads ∙ w.1))
        | inr w ↦ rank-ends ranks all w.0 ∙ sym (ap pick_of (first-leads ∙ w.0))
      ]

-- ---- over bodies
module _ (deal : Deal) (bodies : List Pending) (schedule : List ℕ) (world : World) where
  abbrev posts_in : ℕ → Post
  posts_in t = pending_of bodies t (answers_of t world.events)

  -- the choice by points is the enabled thread of the greatest rank
  pub points-pick : (order points : List ℕ) → SpeaksOf (ByPoints order points) deal.threads
      → choice_in (ByPoints order points) deal.threads (source_of_bodies bodies) schedule world
      ≡ pick_of (next_thread (record {
        deal = deal;
        bodies = bodies;
        rank_after = rank order points;
      }) schedule world)
  points-pick order points speaks =
      rank-picks world.store posts_in deal.threads (ranks order points schedule)
      (rank order points schedule)
      (λ t within. get_or-map-range_with_len (rank order points schedule) 0 (length order) t t 0
      (omega (arith, speaks)) (omega arith))

  -- and so is that by moments
  pub events-pick : (order : List ℕ) (moments : List Moment)
      → SpeaksOf (ByMoments order moments) deal.threads
      → choice_in (ByMoments order moments) deal.threads (source_of_bodies bodies) schedule world
      ≡ pick_of (next_thread (record {
        deal = deal;
        bodies = bodies;
        rank_after = rank_by_moments order moments;
      }) schedule world)
  events-pick order moments speaks =
      rank-picks world.store posts_in deal.threads (ranks_by_moments order moments schedule)
      (rank_by_moments order moments schedule)
      (λ t within. get_or-map-range_with_len (rank_by_moments order moments schedule) 0
      (length order)
      t t 0 (omega (arith, speaks)) (omega arith))

  -- over bodies no choice waits
  pub bodies-no-wait : (plan : Plan) (u : ℕ) → SpeaksOf plan deal.threads
      → choice_in plan deal.threads (source_of_bodies bodies) schedule world ≡ Waits u → ⊥
  bodies-no-wait plan u speaks waits =
      no-wait world.store posts_in deal.threads plan schedule u speaks waits
