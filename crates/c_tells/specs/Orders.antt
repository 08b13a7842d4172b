-- The orders that place a thread last, and a bound, as numbers (this project).
use Rattle.std.specs.Prelude.{◌≡◌, ◌≤◌, ◌<◌, ◌-◌, ℕ, List, length, Some, slice_get}
use Rattle.choices.specs.Orders.{factorial, low_orders}
use Rattle.pct_ask.specs.declared.limits.TheConstants.{MAX_CERTIFIED_THREADS, MAX_POINTS, MAX_STEPS}

-- so few threads that all their orders can be tried
pub record AreFew (threads : ℕ) : Type 0 where
  pub some : 1 ≤ threads
  pub few : threads ≤ MAX_CERTIFIED_THREADS

-- 1 to 7 threads, steps in 1..100000, at most 7 points
pub record MayBound (threads steps points : ℕ) : Type 0 where
  pub threads_few : AreFew threads
  pub some_step : 1 ≤ steps
  pub few_steps : steps ≤ MAX_STEPS
  pub few_points : points ≤ MAX_POINTS

-- the order that stands at the place, from 0, in the list of those that place the thread last;
-- there
-- is room for just the threads
pub record IsOrderTold (threads low place room : ℕ) (order : List ℕ) : Type 0 where
  pub threads_few : AreFew threads
  pub low_thread : low < threads
  pub within : place < factorial (threads - 1)
  pub whole : room ≡ threads
  pub long : length order ≡ threads
  pub stands : slice_get (low_orders threads low) place ≡ Some order
