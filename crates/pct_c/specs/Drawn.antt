-- What may be drawn for (this project).
use Rattle.std.specs.Prelude.{◌≡◌, ◌≤◌, ◌+◌, ℕ}
use Rattle.pct_ask.specs.declared.limits.TheConstants.{MAX_DEPTH, MAX_STEPS, MAX_THREADS}

-- 1 to 64 threads, steps in 1..100000, a depth in 1..8, and room for just as many numbers
pub record MayDraw (threads steps depth orders points : ℕ) : Type 0 where
  pub some_thread : 1 ≤ threads
  pub few_threads : threads ≤ MAX_THREADS
  pub some_step : 1 ≤ steps
  pub few_steps : steps ≤ MAX_STEPS
  pub some_depth : 1 ≤ depth
  pub small_depth : depth ≤ MAX_DEPTH
  pub whole : orders ≡ threads
  pub count : points + 1 ≡ depth
