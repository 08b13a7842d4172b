-- Which lists are orders, and the place of a thread in one.
use Rattle.std.proofs.Common.{◌≡◌, ℕ, ◌<◌, List, length, get_or, eqb, eqb-true, arith, inl, inr}
use Rattle.std.proofs.Common.{sym, ◌∙◌}
use Rattle.std.specs.Prelude.{slice_index}
use Rattle.std.proofs.lemmas.Bool.{cases_lt}
use Rattle.std.proofs.lemmas.Bool.Decides.{nat_tests}
use Rattle.std.proofs.lemmas.List.{get_or-take, get_or_default, length-take}
use Rattle.std.proofs.lemmas.List.Sums.{passes_at_first, fails_before_first}
use Rattle.rank_now.specs.Rank.{place_in_order}
use Rattle.rank_now.specs.Order.{IsOrder, IsWrongAt, IsFirstWrong}

-- a list with a wrong place is no order
pub wrong_place_is_no_order : (order : List ℕ) (at : ℕ) → at < length order → IsWrongAt order at
    → IsOrder order → ⊥
wrong_place_is_no_order order at within wrong whole =
    elim wrong [
      | inl out ↦ omega (arith, whole.below at within, out)
      | inr named ↦
          let k = named.0 in
          let d = slice_index order at in
          let early : k < at = omega (arith, length-take at order, named.1) in
          let same : slice_index order k ≡ d =
          get_or_default order k 0 d (omega (arith, within))
          ∙ (sym (get_or-take at order k d early) ∙ named.2) in
          whole.once k at early within same
    ]

-- a list with a first wrong place is no order
pub wrong_is_no_order : (order : List ℕ) (at : ℕ) → IsFirstWrong order at → IsOrder order → ⊥
wrong_is_no_order order at wrong whole =
    wrong_place_is_no_order order at wrong.within wrong.wrong whole

-- the place of a thread, and that it stands there
pub named : (order : List ℕ) → IsOrder order → (thread : ℕ) → thread < length order
    → (place_in_order order thread < length order)
    × (get_or order (place_in_order order thread) 0 ≡ thread)
named order is thread small =
    let w = is.all thread small in
    elim (cases_lt (place_in_order order thread) (length order)) [
      | inl there ↦ (
        there,
        eqb-true (get_or order (place_in_order order thread) 0) thread
            (passes_at_first (λ other. eqb other thread) order 0 there),
      )
      | inr past ↦ absurd (let none = fails_before_first (λ other. eqb other thread) order w.0
          thread (omega (arith, w.1)) in grind (arith, nat_tests, w.2))
    ]

-- each thread's place is one of the order's
pub place-within-order : (order : List ℕ) → IsOrder order → (thread : ℕ) → thread < length order
    → place_in_order order thread < length order
place-within-order order is thread small = (named order is thread small).0
