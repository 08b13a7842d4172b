-- What each policy keeps, and the schedules that it stands for.
use Rattle.std.specs.Prelude.{◌≡◌, ℕ, ◌==◌, ◌≤◌, List, length, map}
use Rattle.std.specs.List.{count_by}
use Rattle.rank_now.specs.declared.moment.Moment.{Moment}
use Rattle.rank_now.specs.Order.{IsOrder}
use Rattle.rank_now.specs.Rank.{ranks, ranks_by_moments, threads_of}
use Rattle.policy_pick.specs.Plan.{Plan, ByPoints, ByMoments, ByList}
use Rattle.pct_ask.specs.declared.limits.TheConstants.{MAX_POINTS, MAX_THREADS}

-- of a `Pct`: its order and points, how many steps were taken, and each thread's value
pub record PointsKept : Type 0 where
  pub order : List ℕ
  pub points : List ℕ
  pub taken : ℕ
  pub values : List ℕ

-- its parameters
abbrev pub points_plan : PointsKept → Plan
points_plan kept = ByPoints kept.order kept.points

-- it stands for a schedule: it counted as many steps, and the values are the ranks after it
pub record PointsStand (kept : PointsKept) (schedule : List ℕ) : Type 0 where
  pub taken : kept.taken ≡ length schedule
  pub values : kept.values ≡ ranks kept.order kept.points schedule

-- of a `DirectedPolicy`: its order and moments, each thread's value, and how many steps it took
pub record MomentsKept : Type 0 where
  pub order : List ℕ
  pub moments : List Moment
  pub values : List ℕ
  pub own : List ℕ

-- its parameters
abbrev pub moments_plan : MomentsKept → Plan
moments_plan kept = ByMoments kept.order kept.moments

-- how many steps of the schedule each thread of the order took
abbrev pub own_counts : List ℕ → List ℕ → List ℕ
own_counts order schedule =
    map (λ thread. count_by (λ taker. taker == thread) schedule) (threads_of order)

-- it stands for a schedule: the values are the ranks after it, by its moments, and each thread's
-- own steps are counted
pub record MomentsStand (kept : MomentsKept) (schedule : List ℕ) : Type 0 where
  pub values : kept.values ≡ ranks_by_moments kept.order kept.moments schedule
  pub own : kept.own ≡ own_counts kept.order schedule

-- of a `Listed`: the threads, and how many steps were taken
pub record ListKept : Type 0 where
  pub listed : List ℕ
  pub taken : ℕ

-- its parameters
abbrev pub list_plan : ListKept → Plan
list_plan kept = ByList kept.listed

-- it stands for a schedule: it counted as many steps
abbrev pub ListStands : ListKept → List ℕ → Type 0
ListStands kept schedule = kept.taken ≡ length schedule

-- what a policy that goes by rank keeps true: `count` values to give, one for each of its changes
pub record FitsOrder (order values : List ℕ) (count changes : ℕ) : Type 0 where
  pub is_order : IsOrder order
  pub few_threads : length order ≤ MAX_THREADS
  pub few_changes : changes ≤ MAX_POINTS
  pub as_many : count ≡ changes
  pub threads : length values ≡ length order
