-- A list that is known to be an order is one.
use Rattle.std.proofs.Common.{List, ℕ}
use Rattle.std.proofs.Math.Logic.{∥∥₁_elim}
use mathlib.Core.HLevel.{⊥_prop}
use Rattle.rank_now.specs.Order.{IsOrder}
use Rattle.rank_now.proofs.Orders.{is-order}
use Rattle.rank_now.proofs.laws.Orders.{wrong_place_is_no_order}

-- its order is found again by looking at each place
pub known_order : (order : List ℕ) → ∥ IsOrder order ∥₁ → IsOrder order
known_order order known =
    is-order order (λ place within wrong. ∥∥₁_elim known ⊥_prop
    (wrong_place_is_no_order order place within wrong))
