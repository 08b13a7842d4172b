-- A thread that was lowered has a lower rank than each that wasn't (PCT).
use Rattle.std.proofs.Common.{◌≡◌, ℕ, zero, suc, ◌+◌, ◌-◌, ◌<◌, ◌≤◌, cond, eqb, List, length, refl}
use Rattle.std.proofs.Common.{ap, sym, subst, ◌∙◌, arith, eq-eqb, ne_eqb}
use Rattle.rank_now.specs.declared.moment.Moment.{Moment}
use Rattle.rank_now.specs.Positions.{passes_at}
use Rattle.rank_now.specs.Order.{IsOrder}
use Rattle.rank_now.specs.Rank.{place_in_order, last_change, rank_by, rank, rank_by_moments}
use Rattle.rank_now.specs.Rank.{index_of_point, index_of_moment, is_moment}
use Rattle.rank_now.proofs.laws.Orders.{place-within-order}
use Rattle.rank_now.proofs.laws.Positions.{greatest-le}

module _ (given : ℕ → ℕ) (count : ℕ) (order schedule : List ℕ) (is : IsOrder order)
    (low : (step : ℕ) → given step ≤ count) (lowered other : ℕ) (small : other < length order)
    (was : 0 < last_change given schedule lowered) (never : last_change given schedule other ≡ 0)
  where
    abbrev from_order : ℕ → ℕ
    from_order thread = count + length order - place_in_order order thread

    given-at : (step : ℕ) → 0 < step → cond (eqb step 0) (from_order lowered) (given step) ≤ count
    given-at zero none = omega (arith, none)
    given-at (suc k) some =
        subst (λ b. cond b (from_order lowered) (given (suc k)) ≤ count)
        (sym (ne_eqb (suc k) 0 (λ z. omega arith))) (low (suc k))

    given-below : (step last : ℕ) → 0 < step → last ≡ 0
        → cond (eqb step 0) (from_order lowered) (given step)
        < cond (eqb last 0) (from_order other) (given last)
    given-below step last some none =
        let place = place-within-order order is other small in
        let below = given-at step some in
        let above : cond (eqb last 0) (from_order other) (given last) ≡ from_order other =
        ap (λ s. cond (eqb s 0) (from_order other) (given s)) none
        ∙ ap (λ b. cond b (from_order other) (given 0)) (eq-eqb 0 0 refl) in
        omega (arith, place, below, above)

    pub lowered-below : rank_by given count order schedule lowered
        < rank_by given count order schedule other
    unfolding rank_by
    lowered-below =
        given-below (last_change given schedule lowered) (last_change given schedule other) was never

-- the same by change points
pub points-lowered-below : (order points schedule : List ℕ) → IsOrder order
    → (lowered other : ℕ) → other < length order
    → 0 < last_change (index_of_point points) schedule lowered
    → last_change (index_of_point points) schedule other ≡ 0
    → rank order points schedule lowered < rank order points schedule other
points-lowered-below order points schedule is =
    lowered-below (index_of_point points) (length points) order schedule is
    (λ step. greatest-le (passes_at (λ point. eqb point step) points) (length points))

-- the same by moments
pub moments-lowered-below : (order : List ℕ) (moments : List Moment) (schedule : List ℕ)
    → IsOrder order → (lowered other : ℕ) → other < length order
    → 0 < last_change (index_of_moment moments schedule) schedule lowered
    → last_change (index_of_moment moments schedule) schedule other ≡ 0
    → rank_by_moments order moments schedule lowered
    < rank_by_moments order moments schedule other
moments-lowered-below order moments schedule is =
    lowered-below (index_of_moment moments schedule) (length moments) order schedule is
    (λ step. greatest-le (passes_at (is_moment schedule step) moments) (length moments))
