-- A list that is an order, found place by place, and the values that it gives at first.
use Rattle.std.proofs.Common.{◌≡◌, ◌≢◌, ℕ, ◌+◌, ◌-◌, ◌<◌, ◌≤◌, List, length, get_or, take, map}
use Rattle.std.proofs.Common.{replicate, Option, None, sym, ap, ◌∙◌}
use Rattle.std.proofs.Common.{arith, inl, inr}
use Rattle.std.proofs.lemmas.List.{get_or-take, length-take, get_or_default, get_or-replicate}
use Rattle.std.proofs.lemmas.List.{length-replicate}
use Rattle.std.proofs.lemmas.Bool.{cases_lt, cases_eq}
use Rattle.std.proofs.lemmas.List.FromFn.{fill_by_all, length-map-range_with_len}
use Rattle.std.proofs.lemmas.List.FromFn.{get_or-map-range_with_len}
use Rattle.rank_now.specs.Rank.{place_in_order, threads_of}
use Rattle.rank_now.specs.Ranking.{AreLowered}
use Rattle.rank_now.specs.Order.{IsOrder, IsWrongAt}
use Rattle.rank_now.proofs.laws.Orders.{named, place-within-order}
use Rattle.rank_now.proofs.laws.WholeOrders.{whole-order}

module _ (order : List ℕ) (sound : (place : ℕ) → place < length order
    → ¬ IsWrongAt order place) where
  below : (place : ℕ) → place < length order → get_or order place 0 < length order
  below place within = elim (cases_lt (get_or order place 0) (length order)) [
    | inl lt ↦ lt
    | inr ge ↦ absurd (sound place within (inl ge))
  ]

  once : (first second : ℕ) → first < second → second < length order
      → get_or order first 0 ≢ get_or order second 0
  once first second lt within e =
      let long = length-take second order in
      let there : first < length (take second order) = omega arith in
      let named : get_or (take second order) first (get_or order second 0) ≡ get_or order second 0 =
      get_or_default (take second order) first (get_or order second 0) 0 there
      ∙ get_or-take second order first 0 lt ∙ e in
      sound second within (inr (first, there, named))

  different : (first second : ℕ) → first < length order → second < length order
      → get_or order first 0 ≡ get_or order second 0 → first ≡ second
  different first second p q e = elim (cases_eq first second) [
    | inl same ↦ same
    | inr ne ↦ elim (cases_lt first second) [
      | inl lt ↦ absurd (once first second lt q e)
      | inr ge ↦ absurd (once second first (omega arith) p (sym e))
    ]
  ]

  pub is-order : IsOrder order
  is-order = whole-order order below once

module _ (order values : List ℕ) (count : ℕ) (is : IsOrder order)
    (long : length values ≡ length order)
    (given : (place : ℕ) → place < length order
    → get_or values (get_or order place 0) 0 ≡ count + length order - place) where
  value-of : (thread : ℕ) → thread < length order
      → get_or values thread 0 ≡ count + length order - place_in_order order thread
  value-of thread small = let at = named order is thread small in
      ap (λ x. get_or values x 0) (sym at.1) ∙ given (place_in_order order thread) at.0

  -- the values that are made first are those of the definition
  pub first-values-are : values ≡ map (λ t. count + length order - place_in_order order t)
      (threads_of order)
  first-values-are =
      fill_by_all (λ t. count + length order - place_in_order order t) values (length order) 0 long
      value-of

-- before the first step each thread has the value that the order gives it, and none was lowered
pub first-lowered : (order values : List ℕ) (lowered : List (Option ℕ)) (count : ℕ) → IsOrder order
    → values ≡ map (λ t. count + length order - place_in_order order t) (threads_of order)
    → lowered ≡ replicate count None → length order ≤ 64 → count ≤ 7
    → AreLowered order values lowered
first-lowered order values lowered count is made none few_threads few_values =
    let f : ℕ → ℕ = λ t. count + length order - place_in_order order t in
    let long : length values ≡ length order =
    ap length made ∙ length-map-range_with_len f 0 (length order) in
    let low : length lowered ≡ count = ap length none ∙ length-replicate count None in
    let has : (thread : ℕ) → thread < length order → get_or values thread 0 ≡ f thread =
    λ thread within. ap (λ x. get_or x thread 0) made
    ∙ get_or-map-range_with_len f 0 (length order) thread thread 0 within (omega arith) in
    record {
      few_threads = few_threads;
      few_values = omega arith;
      is_order = is;
      threads = long;
      given = λ thread within. inl (omega (arith, has thread within, low));
      holders = λ index thread within. (
        λ e. absurd (let free : get_or lowered index None ≡ None =
            ap (λ x. get_or x index None) none
            ∙ get_or-replicate count index None None (omega arith) in cc),
        λ h. absurd (let place = place-within-order order is thread (omega (arith, h.within)) in
            omega (arith, h.has, h.within, has thread (omega (arith, h.within)))),
      );
    }
