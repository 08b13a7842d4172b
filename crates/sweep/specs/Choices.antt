-- All choices of an order and change points, listed (this project; that these are all that the PCT
-- scheduler may draw: Burckhardt, Kothari, Musuvathi, Nagarakatte, "A Randomized Scheduler with
-- Probabilistic Guarantees of Finding Bugs", 2010).
use Rattle.std.specs.Prelude.{◌≡◌, ℕ, ◌*◌, ◌^◌, ◌<◌, ◌≤◌, List, map, Option, Some, None}
use Rattle.std.specs.List.{flat_map}
use Rattle.turn_book.specs.Chances.{threads_below}
use Rattle.choices.specs.Orders.{factorial, orders}
use Rattle.choices.specs.PointLists.{pointlists}
use Rattle.sweep.specs.declared.choice.Choice.{Choice}

-- an order with the points that it is taken with
abbrev pub choice_of : List ℕ → List ℕ → Choice
choice_of order points = record { order = order; points = points }

-- Each order of n threads with each list of so many points in 1..k: the points vary fastest, and
-- both are in the order of their own lists.
abbrev pub choices : ℕ → ℕ → ℕ → List Choice
choices threads k many =
    flat_map (λ order. map (choice_of order) (pointlists k many))
    (orders (threads_below threads))

-- how many there are
abbrev pub choice_count : ℕ → ℕ → ℕ → ℕ
choice_count threads k many = factorial threads * k ^ many

-- so many choices are swept at most
abbrev pub most_choices : ℕ
most_choices = 100000000

-- their number, where that isn't more than the most, and none where it is
abbrev pub IsCountWithin : ℕ → Option ℕ → Type 0
IsCountWithin whole None = most_choices < whole
IsCountWithin whole (Some count) = (count ≡ whole) × (whole ≤ most_choices)
