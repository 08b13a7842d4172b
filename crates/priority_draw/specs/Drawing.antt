-- The order and the change points that a seed gives (PCT draws them at random; how they come from
-- words is this project's).
use Rattle.std.specs.Prelude.{ℕ, ◌+◌, ◌-◌, ◌*◌, ◌/◌, ◌^◌, ◌≤◌, List, map}
use Rattle.std.specs.List.{range_with_len}
use Rattle.priority_draw.specs.Words.{number_at}
use Rattle.priority_draw.specs.Orders.{order_of}

-- a 64-bit number brought below a bound
abbrev pub scale : ℕ → ℕ → ℕ
scale word bound = word * bound / 2 ^ 64

-- the draw below a bound by the two words from a place on
abbrev pub draw : ℕ → ℕ → ℕ → ℕ
draw seed place bound = scale (number_at seed place) bound

-- the places of n threads, by the 2n words from a place on: the bounds are n, n-1, .., 1
unfoldable pub drawn_places : ℕ → ℕ → ℕ → List ℕ
drawn_places seed place threads =
    map (λ i. draw seed (place + 2 * i) (threads - i)) (range_with_len 0 threads)

-- the order that these places give
abbrev pub drawn_order : ℕ → ℕ → ℕ → List ℕ
drawn_order seed place threads = order_of (drawn_places seed place threads)

-- so many points in 1..steps, by two words each from a place on
unfoldable pub drawn_points : ℕ → ℕ → ℕ → ℕ → List ℕ
drawn_points seed place steps count =
    map (λ i. 1 + draw seed (place + 2 * i) steps) (range_with_len 0 count)

-- What a seed gives a run, the random choices of PCT: an order of the threads, the highest first,
-- and change points, each the number of a step from 1. Two points may be equal, and they stand as
-- they were drawn, in no order of their own.
pub record SeedDraw : Type 0 where
  pub order : List ℕ
  pub points : List ℕ

-- What a seed gives for n threads, k steps and depth d: first the order, by the first 2n words, and
-- then d-1 points, by the words after these.
abbrev pub draw_of_seed : ℕ → ℕ → ℕ → ℕ → SeedDraw
draw_of_seed seed threads steps depth = record {
  order = drawn_order seed 0 threads;
  points = drawn_points seed (2 * threads) steps (depth - 1);
}

-- a step that a point may name
pub record IsStepOfPoint (steps point : ℕ) : Type 0 where
  pub first : 1 ≤ point
  pub last : point ≤ steps
