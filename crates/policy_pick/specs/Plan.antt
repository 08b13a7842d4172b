-- The parameters of a policy, as plain data (orders and change points are those of PCT; moments and
-- lists are this project's).
use Rattle.std.specs.Prelude.{◌≡◌, ℕ, ◌<◌, ◌≤◌, List, length}
use Rattle.std.specs.List.{All}
use Rattle.rank_now.specs.declared.moment.Moment.{Moment}
use Rattle.pct_ask.specs.declared.limits.TheConstants.{MAX_THREADS}

-- what a policy goes by: an order with change points or moments, or a list of threads
pub data Plan : Type 0 where
  -- an order of the threads, and the change points of PCT
  ByPoints : List ℕ → List ℕ → Plan
  -- an order of the threads, and moments in the place of change points
  ByMoments : List ℕ → List Moment → Plan
  -- a list of threads, one a step
  ByList : List ℕ → Plan

-- how many threads a policy speaks of: those of its order, or any number up to 64 that the listed
-- threads are below
abbrev pub SpeaksOf : Plan → ℕ → Type 0
SpeaksOf (ByPoints order points) threads = threads ≡ length order
SpeaksOf (ByMoments order moments) threads = threads ≡ length order
SpeaksOf (ByList listed) threads = (threads ≤ MAX_THREADS) × All (λ thread. thread < threads) listed

-- it goes by an order, and not by a list
abbrev pub GoesByRank : Plan → Type 0
GoesByRank (ByPoints order points) = Unit {0}
GoesByRank (ByMoments order moments) = Unit {0}
GoesByRank (ByList listed) = ⊥

-- the thread is one of those
abbrev pub IsThreadOf : Plan → ℕ → Type 0
IsThreadOf plan thread = (threads : ℕ) × SpeaksOf plan threads × (thread < threads)
