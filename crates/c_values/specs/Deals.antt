-- What the threads of a test share, as C says it (this project).
use Rattle.std.specs.Prelude.{◌≡◌, ◌≤◌, ℤ, List, length, All}
use Rattle.pct_ask.specs.declared.deal.Deal.{Deal}
use Rattle.pct_ask.specs.Ranges.{IsSemValue, IsBarrierCount}
use Rattle.c_values.specs.declared.deal.PctDeal.{PctDeal}
use Rattle.pct_ask.specs.declared.limits.TheConstants.{MAX_OBJECTS, MAX_THREADS}

-- the deal has these counts and these first values
pub record SaysDeal (counts : PctDeal) (of_vars of_sems of_barriers : List ℤ) (deal : Deal)
    : Type 0 where
  pub threads : deal.threads ≡ counts.threads
  pub vars : deal.vars ≡ of_vars
  pub mutexes : deal.mutexes ≡ counts.mutexes
  pub conds : deal.conds ≡ counts.conditions
  pub sems : deal.sems ≡ of_sems
  pub barriers : deal.barriers ≡ of_barriers
  pub rwlocks : deal.rwlocks ≡ counts.rwlocks

-- 1 to 64 threads, at most 64 objects of each kind, and first values in range
pub record AreLawfulCounts (counts : PctDeal) (vars sems barriers : List ℤ) : Type 0 where
  pub some_thread : 1 ≤ counts.threads
  pub few_threads : counts.threads ≤ MAX_THREADS
  pub few_vars : length vars ≤ MAX_OBJECTS
  pub few_mutexes : counts.mutexes ≤ MAX_OBJECTS
  pub few_conds : counts.conditions ≤ MAX_OBJECTS
  pub few_sems : length sems ≤ MAX_OBJECTS
  pub few_barriers : length barriers ≤ MAX_OBJECTS
  pub few_rwlocks : counts.rwlocks ≤ MAX_OBJECTS
  pub sem_values : All IsSemValue sems
  pub barrier_counts : All IsBarrierCount barriers
