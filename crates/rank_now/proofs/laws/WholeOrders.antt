-- Lists that are whole orders.
use Rattle.std.proofs.Common.{◌≡◌, ◌≢◌, ℕ, zero, suc, ◌<◌, List, ◌∷◌, length, get_or, true, false}
use Rattle.std.proofs.Common.{eqb}
use Rattle.std.proofs.Common.{ne_eqb, eqb-true, sym, ◌∙◌, arith, inl, inr}
use Rattle.std.specs.List.{list_any}
use Rattle.std.proofs.lemmas.List.{get_or_default}
use Rattle.std.proofs.lemmas.Bool.{cases_lt}
use Rattle.std.proofs.lemmas.Bool.Decides.{nat_tests}
use Rattle.std.proofs.lemmas.List.Folds.{Any-from_list_any}
use Rattle.std.proofs.lemmas.List.Sums.{passes_at_first, fails_before_first}
use Rattle.std.proofs.lemmas.Map.Keys.{IsDistinct-from_apart}
use Rattle.std.proofs.lemmas.Map.Steps.{length-le_from_distinct_below}
use Rattle.rank_now.specs.Rank.{place_in_order}
use Rattle.rank_now.specs.Order.{IsOrder}

-- a list of numbers below its length, of which none stands twice, is an order
module _ (order : List ℕ)
    (below : (place : ℕ) → place < length order → get_or order place 0 < length order)
    (once : (first second : ℕ) → first < second → second < length order
    → get_or order first 0 ≢ get_or order second 0) where
  -- a thread that is named nowhere, and then the order's
  abbrev more : ℕ → List ℕ
  more thread = thread ∷ order

  more-below : (thread : ℕ) → thread < length order → (i : ℕ) → i < suc (length order)
      → get_or (more thread) i 0 < length order
  more-below thread small zero p = small
  more-below thread small (suc i) p = below i (omega arith)

  more-apart : (thread : ℕ) → ((place : ℕ) → place < length order → get_or order place 0 ≢ thread)
      → (i j : ℕ) → i < j → j < suc (length order)
      → get_or (more thread) i 0 ≢ get_or (more thread) j 0
  more-apart thread absent zero (suc j) lt q e = absent j (omega arith) (sym e)
  more-apart thread absent (suc i) (suc j) lt q e = once i j (omega arith) (omega arith) e
  more-apart thread absent zero zero lt q e = omega arith
  more-apart thread absent (suc i) zero lt q e = omega arith

  not-missing : (thread : ℕ) → thread < length order
      → ¬ ((place : ℕ) → place < length order → get_or order place 0 ≢ thread)
  not-missing thread small absent =
      let apart : (i j d : ℕ) → i < j → j < length (more thread)
      → eqb (get_or (more thread) i d) (get_or (more thread) j d) ≡ false = λ i j d lt q.
      let first = get_or_default (more thread) i d 0 (omega arith) in
      let second = get_or_default (more thread) j d 0 q in
      ne_eqb (get_or (more thread) i d) (get_or (more thread) j d)
      (λ e. more-apart thread absent i j lt q (sym first ∙ e ∙ second)) in
      let within : (q : ℕ) → list_any (eqb q) (more thread) ≡ true → q < length order = λ q any.
      let w = Any-from_list_any (eqb q) (more thread) any in
      let is = get_or_default (more thread) w.0 0 w.1 w.2 in
      omega (arith, more-below thread small w.0 w.2, is, w.3, eqb-true q w.1 w.4) in
      let few = length-le_from_distinct_below (more thread) (length order)
      (IsDistinct-from_apart eqb (more thread) apart) within in
      omega arith

  stands : (thread : ℕ) → thread < length order
      → (place_in_order order thread < length order)
      × (get_or order (place_in_order order thread) 0 ≡ thread)
  stands thread small =
      elim (cases_lt (place_in_order order thread) (length order)) [
        | inl there ↦ (
          there,
          eqb-true (get_or order (place_in_order order thread) 0) thread
              (passes_at_first (λ other. eqb other thread) order 0 there),
        )
        | inr past ↦ absurd (not-missing thread small
            (λ place within e. grind (
              arith,
              nat_tests,
              fails_before_first (λ other. eqb other thread) order place 0 (omega arith),
            )))
      ]

  pub whole-order : IsOrder order
  whole-order = record {
    below = below;
    once = once;
    all = λ thread small. let at = stands thread small in (
      place_in_order order thread,
      at.0,
      get_or_default order (place_in_order order thread) thread 0 at.0 ∙ at.1,
    );
  }
