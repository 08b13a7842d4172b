-- Cycles of nestings: that no order is good beside a good one, and that a list is one.
use Rattle.std.proofs.Common.{◌≡◌, ◌≢◌, ℕ, zero, suc, ◌+◌, ◌-◌, ◌<◌, List, length, get_or, Some}
use Rattle.std.proofs.Common.{slice_get, sym, ap, ◌∙◌, subst, inl, inr, arith, add-one}
use Rattle.std.proofs.lemmas.Bool.{cases_eq, cases_lt}
use Rattle.std.proofs.lemmas.Option.{slice_get_within, slice_get-get_or, get_or_from_slice_get}
use Rattle.pct_ask.specs.declared.event.Event.{Event}
use Rattle.lock_order.specs.declared.nesting.Nesting.{Nesting}
use Rattle.lock_order.specs.Nestings.{IsNesting}
use Rattle.lock_order.specs.Good.{StandsBefore, IsGoodOrder, IsGoodCycle}

-- the nesting that reads past the end of a list give
abbrev pub no_nesting : Nesting
no_nesting = record { step = 0; thread = 0; held = 0; taken = 0 }

pub nesting-at : (cycle : List Nesting) (place : ℕ) → place < length cycle
    → slice_get cycle place ≡ Some (get_or cycle place no_nesting)
nesting-at cycle place within = slice_get-get_or cycle place no_nesting within

module _ (mutexes : ℕ) (events : List Event) (order : List ℕ) (cycle : List Nesting)
    (good : IsGoodOrder mutexes events order) (round : IsGoodCycle events cycle) where
  abbrev at : ℕ → Nesting
  at place = get_or cycle place no_nesting

  once : (first second : ℕ) → first < length order → second < length order
      → get_or order first 0 ≡ get_or order second 0 → first ≡ second
  once first second p q e = elim (cases_eq first second) [
    | inl same ↦ same
    | inr ne ↦ elim (cases_lt first second) [
      | inl lt ↦ absurd (good.each.once first second lt q e)
      | inr ge ↦ absurd (good.each.once second first (omega arith) p (sym e))
    ]
  ]

  before : (place : ℕ) → place < length cycle → StandsBefore order (at place).held (at place).taken
  before place within =
      good.kept (at place) (round.nested place (at place) (nesting-at cycle place within))

  -- what the cycle holds first stands before what it takes at any place
  climbs : (place : ℕ) → place < length cycle → StandsBefore order (at 0).held (at place).taken
  climbs zero within = before zero within
  climbs (suc place) within =
      let below = climbs place (omega arith) in
      let next = before (suc place) within in
      let e : place + 1 ≡ suc place = add-one place in
      let P : ℕ → Type 0 = λ k. slice_get cycle k ≡ Some (at (suc place)) in
      let joined = round.joined place (at place) (at (suc place))
      (nesting-at cycle place (omega arith))
      (subst P (sym e) (nesting-at cycle (suc place) within)) in
      let below_rising = below.rising in
      let below_within = below.within in
      let next_rising = next.rising in
      let next_within = next.within in
      let same : below.second ≡ next.first =
      once below.second next.first below_within (omega arith)
      (below.taken_there ∙ joined ∙ sym next.held_there) in
      record {
        first = below.first;
        second = next.second;
        rising = omega arith;
        within = next_within;
        held_there = below.held_there;
        taken_there = next.taken_there;
      }

  pub never-both : ⊥
  never-both =
      let some = round.some in
      let last = length cycle - 1 in
      let whole = climbs last (omega arith) in
      let rising = whole.rising in
      let within = whole.within in
      let closed = round.closed (at last) (at 0) (nesting-at cycle last (omega arith))
      (nesting-at cycle 0 some) in
      let same = once whole.second whole.first within (omega arith)
      (whole.taken_there ∙ closed ∙ sym whole.held_there) in
      omega arith

-- ---- a list of nestings that is read from its begin

-- what the nesting before a place takes, and the last one before the first
abbrev pub taken_before : List Nesting → ℕ → ℕ
taken_before cycle zero = (get_or cycle (length cycle - 1) no_nesting).taken
taken_before cycle (suc place) = (get_or cycle place no_nesting).taken

pub record CycleSoFar (events : List Event) (cycle : List Nesting) (steps taken : ℕ) : Type 0 where
  pub last : taken ≡ taken_before cycle steps
  pub nested : (place : ℕ) → place < steps → IsNesting events (get_or cycle place no_nesting)
  pub joined : (place : ℕ) → place < steps
      → taken_before cycle place ≡ (get_or cycle place no_nesting).held

module _ (events : List Event) (cycle : List Nesting) where
  abbrev item : ℕ → Nesting
  item place = get_or cycle place no_nesting

  item-is : (place : ℕ) (nesting : Nesting) → slice_get cycle place ≡ Some nesting
      → item place ≡ nesting
  item-is place nesting at = get_or_from_slice_get cycle place nesting no_nesting at

  good-joined : IsGoodCycle events cycle → (place : ℕ) → place < length cycle
      → taken_before cycle place ≡ (item place).held
  good-joined good zero within =
      good.closed (item (length cycle - 1)) (item 0)
      (nesting-at cycle (length cycle - 1) (omega arith)) (nesting-at cycle 0 within)
  good-joined good (suc place) within =
      let e : place + 1 ≡ suc place = add-one place in
      let P : ℕ → Type 0 = λ k. slice_get cycle k ≡ Some (item (suc place)) in
      good.joined place (item place) (item (suc place)) (nesting-at cycle place (omega arith))
      (subst P (sym e) (nesting-at cycle (suc place) within))

  -- a nesting that doesn't hold what was taken before, or is none, breaks the cycle
  pub broken-join : (place taken : ℕ) → place < length cycle → CycleSoFar events cycle place taken
      → (item place).held ≢ taken → ¬ IsGoodCycle events cycle
  broken-join place taken within so_far apart good =
      apart (sym (so_far.last ∙ good-joined good place within))

  pub broken-nesting : (place : ℕ) → place < length cycle → ¬ IsNesting events (item place)
      → ¬ IsGoodCycle events cycle
  broken-nesting place within none good =
      none (good.nested place (item place) (nesting-at cycle place within))

  pub whole-cycle : (taken : ℕ) → 0 < length cycle → CycleSoFar events cycle (length cycle) taken
      → IsGoodCycle events cycle
  whole-cycle taken some so_far = record {
    some = some;
    nested = λ place nesting at.
        let P : Nesting → Type 0 = λ n. IsNesting events n in
        subst P (item-is place nesting at)
        (so_far.nested place (slice_get_within cycle place nesting at));
    joined = λ place nesting next at at_next.
        let e : place + 1 ≡ suc place = add-one place in
        let within = slice_get_within cycle (place + 1) next at_next in
        let step : (item place).taken ≡ (item (place + 1)).held =
        so_far.joined (suc place) (omega arith) ∙ sym (ap (λ k. (item k).held) e) in
        ap (λ (n : Nesting). n.taken) (sym (item-is place nesting at)) ∙ step
        ∙ ap (λ (n : Nesting). n.held) (item-is (place + 1) next at_next);
    closed = λ last first at_last at_first.
        ap (λ (n : Nesting). n.taken) (sym (item-is (length cycle - 1) last at_last))
        ∙ so_far.joined 0 some ∙ ap (λ (n : Nesting). n.held) (item-is 0 first at_first);
  }
