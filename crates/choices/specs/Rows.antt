-- Small theorems that read the definitions on known lists.
use Rattle.std.specs.Prelude.{◌≡◌, ℕ, zero, suc, [], ◌∷◌, Some, None, refl}
use Rattle.pct_ask.specs.declared.verdict.Verdict.TheVariants.{Passed, Cut}
use Rattle.rank_now.specs.declared.moment.Moment.{Moment}
use Rattle.turn_book.specs.Chances.{threads_below}
use Rattle.choices.specs.Orders.{orders, low_orders}
use Rattle.choices.specs.PointLists.{pointlists}
use Rattle.choices.specs.Points.{points_of}
use Rattle.choices.specs.Moments.{moments_of}
use Rattle.choices.specs.Counting.{LedRuns, hits}

abbrev pub at : ℕ → ℕ → Moment
at thread number = record { thread = thread; number = number }

-- three threads have six orders, the last one varying slowest and from the last thread to the first
pub six_orders : orders (threads_below 3) ≡
    (0 ∷ 1 ∷ 2 ∷ []) ∷ (1 ∷ 0 ∷ 2 ∷ []) ∷ (0 ∷ 2 ∷ 1 ∷ []) ∷ (2 ∷ 0 ∷ 1 ∷ []) ∷ (1 ∷ 2 ∷ 0 ∷ [])
    ∷ (2 ∷ 1 ∷ 0 ∷ []) ∷ []
six_orders = refl

pub no_threads : orders [] ≡ [] ∷ []
no_threads = refl

-- two of three threads are before the second one
pub second_last : low_orders 3 1 ≡ (0 ∷ 2 ∷ 1 ∷ []) ∷ (2 ∷ 0 ∷ 1 ∷ []) ∷ []
second_last = refl

-- two points of 1..2
pub four_lists : pointlists 2 2 ≡ (1 ∷ 1 ∷ []) ∷ (1 ∷ 2 ∷ []) ∷ (2 ∷ 1 ∷ []) ∷ (2 ∷ 2 ∷ []) ∷ []
four_lists = refl

pub no_points : pointlists 5 0 ≡ [] ∷ []
no_points = refl

-- the second step of thread 0, a step of a thread that took none, the only one of thread 1, and a
-- third of thread 0
pub exposed_points : points_of (0 ∷ 1 ∷ 0 ∷ []) 9 (at 0 2 ∷ at 2 1 ∷ at 1 1 ∷ at 0 3 ∷ [])
    ≡ 3 ∷ 9 ∷ 2 ∷ 9 ∷ []
exposed_points = refl

-- equal moments have equal points
pub equal_moments : points_of (0 ∷ 1 ∷ []) 8 (at 0 1 ∷ at 0 1 ∷ []) ≡ 1 ∷ 1 ∷ []
equal_moments = refl

-- of two equal points the last is kept, and a point past the end is not
pub last_equal_kept : moments_of (0 ∷ 1 ∷ 0 ∷ []) (3 ∷ 3 ∷ 5 ∷ 1 ∷ []) ≡ at 0 2 ∷ at 0 1 ∷ []
last_equal_kept = refl

-- of a run of the threads 0, 1, 1, 0, 2, 2, 2, 2 the points 1 and 5 are the first steps of the
-- threads 0 and 2
pub two_steps : moments_of (0 ∷ 1 ∷ 1 ∷ 0 ∷ 2 ∷ 2 ∷ 2 ∷ 2 ∷ []) (1 ∷ 5 ∷ [])
    ≡ at 0 1 ∷ at 2 1 ∷ []
two_steps = refl

-- of the point 1 given twice there is one moment
pub once : moments_of (0 ∷ 1 ∷ 1 ∷ 0 ∷ 2 ∷ 2 ∷ 2 ∷ 2 ∷ []) (1 ∷ 1 ∷ []) ≡ at 0 1 ∷ []
once = refl

pub no_moments : moments_of (0 ∷ 1 ∷ []) [] ≡ []
no_moments = refl

-- by the order alone: the first thread of the order, as the run's verdict
abbrev pub by_first : LedRuns
by_first [] points = None
by_first (zero ∷ order) points = Some ([], Passed)
by_first (suc thread ∷ order) points = Some ([], Cut)

-- of three threads two orders begin with thread 0, and there are four lists of two points in 1..2
pub eight_pass : hits by_first 3 2 2 Passed ≡ 8
eight_pass = refl

pub sixteen_are_cut : hits by_first 3 2 2 Cut ≡ 16
sixteen_are_cut = refl
