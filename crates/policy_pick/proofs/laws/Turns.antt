-- Who goes next after a step or a post of the thread of the choice, where no other thread is open
-- that wasn't before, or it outranks each one that is.
use Rattle.std.proofs.Common.{◌≡◌, ◌≢◌, ℕ, ◌<◌, ◌≤◌, true, List, length, get_or, Option, Some, None}
use Rattle.std.proofs.Common.{sym, ap, subst, ◌∙◌, arith, ◌⊎◌, inl, inr}
use Rattle.std.specs.Int.{bit_at}
use Rattle.std.specs.List.{find}
use Rattle.std.proofs.lemmas.Bool.{cases_eq}
use Rattle.std.proofs.lemmas.List.FromFn.{length-map-range_with_len}
use Rattle.std.proofs.lemmas.Nat.Bits.{bit_at-lt, bit_at-zero}
use Rattle.rank_now.specs.Rank.{rank, rank_by_moments, ranks, ranks_by_moments}
use Rattle.std.specs.Prelude.{slice_get}
use Rattle.policy_pick.specs.declared.chance.Chance.{Chance}
use Rattle.policy_pick.specs.declared.chance.Chance.TheVariants.{Away, Ready, Blocked, Unknown}
use Rattle.policy_pick.specs.declared.chance.Chance.TheVariants.{Ended}
use Rattle.policy_pick.specs.declared.chance.Pick.{Pick}
use Rattle.policy_pick.specs.declared.chance.Pick.TheVariants.{Thread, Waits, Departs}
use Rattle.policy_pick.specs.Plan.{Plan, ByPoints, ByMoments, ByList, GoesByRank, SpeaksOf}
use Rattle.policy_pick.specs.Choice.{chance_of, is_open, pick_at, threads_of_chances, is_highest}
use Rattle.policy_pick.specs.Choice.{choice_by_rank, choice_by_number, choice_by_list, choice}
use Rattle.policy_pick.specs.Choice.{SameOthers, OpensOnly, HasAwayTarget, TargetsAreAway}
use Rattle.policy_pick.specs.Choice.{OutranksBy, Outranks}
use Rattle.policy_pick.specs.Laws.Finds.{find-is, found-or-none, IsFirstMatch}
use Rattle.policy_pick.specs.Laws.Walks.{open_at, highest-parts, highest-from, false-by}
use Rattle.policy_pick.specs.Laws.Walks.{rank-stops, rank-ends, number-stops, number-ends}

pub same-opens : (thread : ℕ) (earlier later : List Chance) → SameOthers thread earlier later
    → OpensOnly thread 0 earlier later
same-opens thread earlier later same = record {
  threads = same.threads;
  others = λ other within apart none goes.
      sym (ap is_open (same.others other within apart)) ∙ goes;
}

-- ---- what a pick at a thread tells of it
thread-at : (at thread : ℕ) (c : Chance) → pick_at (Thread at) at c ≡ Thread thread → at ≡ thread
thread-at at thread Away e = absurd cc
thread-at at thread Ready e = cc
thread-at at thread Blocked e = absurd cc
thread-at at thread (Unknown target) e = absurd cc
thread-at at thread Ended e = absurd cc

none-departs : (at thread : ℕ) (c : Chance) → pick_at (Departs at) at c ≡ Thread thread → ⊥
none-departs at thread Away e = cc
none-departs at thread Ready e = cc
none-departs at thread Blocked e = cc
none-departs at thread (Unknown target) e = cc
none-departs at thread Ended e = cc

waits-at : (ready : Pick) (at thread : ℕ) (c : Chance) → ready ≢ Waits thread
    → pick_at ready at c ≡ Waits thread → (at ≡ thread) ⊎ (c ≡ Unknown thread)
waits-at ready at thread Away not e = inl cc
waits-at ready at thread Ready not e = absurd (not e)
waits-at ready at thread Blocked not e = absurd cc
waits-at ready at thread (Unknown target) not e =
    let same : target ≡ thread = cc in inr (ap (λ t. Unknown t) same)
waits-at ready at thread Ended not e = absurd cc

-- ---- the walk by falling rank
-- Each other thread of the bits has a lower rank.
abbrev AreLower : List ℕ → ℕ → ℕ → ℕ → Type 0
AreLower ranks thread opened many =
    (other : ℕ) → other < many → bit_at opened other ≡ 1 → other ≢ thread
    → get_or ranks other 0 < get_or ranks thread 0

none-lower : (ranks : List ℕ) (thread many : ℕ) → AreLower ranks thread 0 many
none-lower ranks thread many other within set = absurd (omega (arith, bit_at-zero other))

module _ (ranks : List ℕ) (thread opened : ℕ) (earlier later : List Chance)
    (opens : OpensOnly thread opened earlier later)
    (lower : AreLower ranks thread opened (length earlier)) (goes : open_at later thread ≡ true)
    (first : IsFirstMatch (is_highest ranks earlier) (length earlier) thread) where
  -- a thread that is open now was so before, or has a lower rank
  open-was : (other : ℕ) → other < length earlier → open_at later other ≡ true
      → (open_at earlier other ≡ true)
      ⊎ ((other ≢ thread) × (get_or ranks other 0 < get_or ranks thread 0))
  open-was other within is = elim (cases_eq other thread) [
    | inl same ↦
        inl (ap (open_at earlier) same ∙ (highest-parts ranks earlier thread first.passes).0)
    | inr apart ↦ elim (cases_eq (bit_at opened other) 0) [
      | inl none ↦ inl (opens.others other within apart none is)
      | inr some ↦
          let set : bit_at opened other ≡ 1 = omega (arith, bit_at-lt opened other) in
          inr (apart, lower other within set apart)
    ]
  ]

  still-leads : (other : ℕ) → other < length earlier → open_at later other ≡ true
      → get_or ranks other 0 ≤ get_or ranks thread 0
  still-leads other within is = elim (open-was other within is) [
    | inl was ↦ (highest-parts ranks earlier thread first.passes).1 other within was
    | inr below ↦ omega (arith, below.1)
  ]

  -- the walk stops where it stopped
  still-stops : choice_by_rank ranks later ≡ pick_at (Thread thread) thread (chance_of later thread)
  still-stops =
      let leads = (highest-parts ranks earlier thread first.passes).1 in
      let there : thread < length later = omega (arith, opens.threads, first.within) in
      let found : find (is_highest ranks later) (threads_of_chances later) ≡ Some thread =
      find-is (is_highest ranks later) 0 (length later) thread (omega arith) (omega arith)
      (highest-from ranks later thread goes (λ other p o.
      still-leads other (omega (arith, opens.threads)) o))
      (λ k p q. false-by (is_highest ranks later k) (λ h.
      let parts = highest-parts ranks later k h in
      let here : k < length earlier = omega (arith, first.within) in
      let above = parts.1 thread there goes in
      elim (open-was k here parts.0) [
        | inl so ↦
            let was = highest-from ranks earlier k so
            (λ other w o. let a = leads other w o in omega (arith, a, above)) in
            let not = first.before k q in
            cc
        | inr below ↦ omega (arith, below.1, above)
      ])) in
      rank-stops ranks later thread found

-- where the thread went, and is away now, it is waited for
rank-step : (ranks : List ℕ) (thread opened : ℕ) (earlier later : List Chance)
    → OpensOnly thread opened earlier later → AreLower ranks thread opened (length earlier)
    → choice_by_rank ranks earlier ≡ Thread thread
    → chance_of later thread ≡ Away → choice_by_rank ranks later ≡ Waits thread
rank-step ranks thread opened earlier later opens lower was away =
    elim (found-or-none (is_highest ranks earlier) (length earlier)) [
      | inl w ↦
          let same = thread-at w.0 thread (chance_of earlier w.0)
          (sym (rank-stops ranks earlier w.0 w.1) ∙ was) in
          let F : ℕ → Type 0 = IsFirstMatch (is_highest ranks earlier) (length earlier) in
          still-stops ranks thread opened earlier later opens lower (ap is_open away)
          (subst F same w.2)
          ∙ ap (pick_at (Thread thread) thread) away
      | inr w ↦ absurd (let none = rank-ends ranks earlier w.0 in cc)
    ]

-- where it was waited for, and is ready now, it goes
rank-post : (ranks : List ℕ) (thread : ℕ) (earlier later : List Chance)
    → SameOthers thread earlier later → TargetsAreAway later
    → choice_by_rank ranks earlier ≡ Waits thread → chance_of later thread ≡ Ready
    → choice_by_rank ranks later ≡ Thread thread
rank-post ranks thread earlier later same targets was ready =
    elim (found-or-none (is_highest ranks earlier) (length earlier)) [
      | inl w ↦
          let stops = sym (rank-stops ranks earlier w.0 w.1) ∙ was in
          let not : Thread w.0 ≢ Waits thread = λ e. cc in
          let F : ℕ → Type 0 = IsFirstMatch (is_highest ranks earlier) (length earlier) in
          let at : w.0 ≡ thread =
          elim (waits-at (Thread w.0) w.0 thread (chance_of earlier w.0) not stops) [
            | inl is ↦ is
            | inr unknown ↦ elim (cases_eq w.0 thread) [
              | inl is ↦ is
              | inr apart ↦
                  let stays = same.others w.0 w.2.within apart ∙ unknown in
                  let H : Chance → Type 0 = HasAwayTarget later in
                  let away = (subst H stays (targets w.0
                  (omega (arith, same.threads, w.2.within)))).1 in
                  absurd (let e : Away ≡ Ready = sym away ∙ ready in cc)
            ]
          ] in
          still-stops ranks thread 0 earlier later (same-opens thread earlier later same)
          (none-lower ranks thread (length earlier)) (ap is_open ready) (subst F at w.2)
          ∙ ap (pick_at (Thread thread) thread) ready
      | inr w ↦ absurd (let none = rank-ends ranks earlier w.0 in cc)
    ]

-- ---- the walk by rising number gives no thread its turn
number-none : (chances : List Chance) (thread : ℕ) → choice_by_number chances ≡ Thread thread → ⊥
number-none chances thread is = elim (found-or-none (open_at chances) (length chances)) [
  | inl w ↦ none-departs w.0 thread (chance_of chances w.0)
      (sym (number-stops chances w.0 w.1) ∙ is)
  | inr w ↦ let none = number-ends chances w.0 in cc
]

list-step : (next : Option ℕ) (thread : ℕ) (earlier later : List Chance)
    → choice_by_list next earlier ≡ Thread thread → chance_of later thread ≡ Away
    → choice_by_list next later ≡ Waits thread
list-step None thread earlier later was away = absurd (number-none earlier thread was)
list-step (Some other) thread earlier later was away =
    let same = thread-at other thread (chance_of earlier other) was in
    ap (λ t. pick_at (Thread t) t (chance_of later t)) same
    ∙ ap (pick_at (Thread thread) thread) away

-- ---- the choice of a plan
lower-by : (ranks : List ℕ) (thread opened many : ℕ) → length ranks ≡ many
    → (opened ≡ 0) ⊎ OutranksBy ranks thread opened → AreLower ranks thread opened many
lower-by ranks thread opened many long says = elim says [
  | inl none ↦
      let A : ℕ → Type 0 = λ bits. AreLower ranks thread bits many in
      subst A (sym none) (none-lower ranks thread many)
  | inr outranks ↦
      λ other within set apart. outranks other (omega (arith, long, within)) set apart
]

-- The thread that had the turn is away, and no other is open that wasn't, or it outranks each one
-- that is: it is waited for.
pub choice-step : (plan : Plan) (schedule : List ℕ) (thread opened : ℕ)
    (earlier later : List Chance) → SpeaksOf plan (length earlier)
    → OpensOnly thread opened earlier later
    → (opened ≡ 0) ⊎ Outranks plan schedule thread opened
    → choice plan schedule earlier ≡ Thread thread
    → chance_of later thread ≡ Away → choice plan schedule later ≡ Waits thread
choice-step (ByPoints order points) schedule thread opened earlier later speaks opens says was
    away =
    let long = length-map-range_with_len (rank order points schedule) 0 (length order) in
    rank-step (ranks order points schedule) thread opened earlier later opens
    (lower-by (ranks order points schedule) thread opened (length earlier) (long ∙ sym speaks)
    says) was away
choice-step (ByMoments order moments) schedule thread opened earlier later speaks opens says was
    away =
    let long = length-map-range_with_len (rank_by_moments order moments schedule) 0
    (length order) in
    rank-step (ranks_by_moments order moments schedule) thread opened earlier later opens
    (lower-by (ranks_by_moments order moments schedule) thread opened (length earlier)
    (long ∙ sym speaks) says) was away
choice-step (ByList listed) schedule thread opened earlier later speaks opens says was away =
    list-step (slice_get listed (length schedule)) thread earlier later was away

-- The thread that was waited for is ready, and nothing else has changed: it goes.
pub choice-post : (plan : Plan) (schedule : List ℕ) (thread : ℕ) (earlier later : List Chance)
    → GoesByRank plan → SameOthers thread earlier later → TargetsAreAway later
    → choice plan schedule earlier ≡ Waits thread → chance_of later thread ≡ Ready
    → choice plan schedule later ≡ Thread thread
choice-post (ByPoints order points) schedule thread earlier later by same targets was ready =
    rank-post (ranks order points schedule) thread earlier later same targets was ready
choice-post (ByMoments order moments) schedule thread earlier later by same targets was ready =
    rank-post (ranks_by_moments order moments schedule) thread earlier later same targets was ready
choice-post (ByList listed) schedule thread earlier later by same targets was ready = absurd by
