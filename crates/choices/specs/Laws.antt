-- What the lists of choices have: each choice, once, and nothing else (this project).
use Rattle.std.specs.Prelude.{◌≡◌, ℕ, ◌^◌, List, length, All, Some, slice_get}
use Rattle.rank_now.specs.Order.{IsOrderOf}
use Rattle.turn_book.specs.Chances.{threads_below}
use Rattle.choices.specs.Orders.{factorial, orders}
use Rattle.choices.specs.PointLists.{IsWithin, pointlists}

-- the item stands in the list at one place, and at no other
pub record StandsOnce {X : Type 0} (list : List X) (item : X) : Type 0 where
  pub place : ℕ
  pub stands : slice_get list place ≡ Some item
  pub once : (other : ℕ) → slice_get list other ≡ Some item → other ≡ place

-- it is a list of so many points, each in 1..k
pub record ArePoints (k many : ℕ) (points : List ℕ) : Type 0 where
  pub long : length points ≡ many
  pub within : All (IsWithin k) points

-- The list has so many items; what it is to have stands there once, and nothing else stands there.
pub record HasEachOnce {X : Type 0} (list : List X) (many : ℕ) (Has : X → Type 0) : Type 0 where
  pub many_items : length list ≡ many
  pub each : (item : X) → Has item → StandsOnce list item
  pub none_else : (place : ℕ) (item : X) → slice_get list place ≡ Some item → Has item

-- Of the threads below n each order stands once in the list of orders, which has n! items; and each
-- list of m points in 1..k once in the list of such lists, which has k^m.
pub record EachChoiceOnce : Type 0 where
  pub orders_once : (threads : ℕ)
      → HasEachOnce (orders (threads_below threads)) (factorial threads) (IsOrderOf threads)
  pub points_once : (k many : ℕ)
      → HasEachOnce (pointlists k many) (k ^ many) (ArePoints k many)
