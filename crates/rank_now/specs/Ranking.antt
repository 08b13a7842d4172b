-- What each thread's priority is now.
use Rattle.std.specs.Prelude.{◌≡◌, ◌≢◌, ℕ, ◌+◌, ◌-◌, ◌<◌, ◌≤◌, ◌⊎◌, ◌↔◌, [], List, Option, Some}
use Rattle.std.specs.Prelude.{None, length, map, nat_lt, if◌then◌else◌, slice_index, slice_index_or}
use Rattle.std.specs.Int.{bit_at}
use Rattle.std.specs.List.{count_by}
use Rattle.rank_now.specs.Order.{IsOrder}
use Rattle.rank_now.specs.Rank.{place_in_order, threads_of, ranks, ranks_by_moments}
use Rattle.rank_now.specs.declared.moment.Moment.{Moment}
use Rattle.pct_ask.specs.declared.limits.TheConstants.{MAX_POINTS, MAX_THREADS}

-- the order of the threads, how many values there are to give below those that it gives, and each
-- thread's value, at its number
pub record Ranking : Type 0 where
  pub order : List ℕ
  pub count : ℕ
  pub values : List ℕ

-- how many threads have a greater value than the thread
abbrev pub place_by_value : List ℕ → ℕ → ℕ
place_by_value values thread = count_by (nat_lt (slice_index values thread)) values

-- no two threads have one value
abbrev pub AreDistinctValues : List ℕ → Type 0
AreDistinctValues values =
    (first second : ℕ) → first < length values → second < length values
    → slice_index values first ≡ slice_index values second → first ≡ second

-- the ranking before the first step (PCT): each thread has a value by its place in the order, above
-- all `count` values that are to be given
pub record IsFirstRanking (order : List ℕ) (count : ℕ) (ranking : Ranking) : Type 0 where
  pub ordered : ranking.order ≡ order
  pub counted : ranking.count ≡ count
  pub values : ranking.values
      ≡ map (λ t. count + length order - place_in_order order t) (threads_of order)
  pub distinct : AreDistinctValues ranking.values
  -- These are the ranks by change points and by moments, so many as there are values to give.
  pub by_points : (points : List ℕ) → length points ≡ count
      → ranking.values ≡ ranks order points []
  pub by_moments : (moments : List Moment) → length moments ≡ count
      → ranking.values ≡ ranks_by_moments order moments []

-- the thread stands at the place of the walk by falling value
pub record IsAtPlace (values : List ℕ) (place thread : ℕ) : Type 0 where
  pub within : thread < length values
  pub greater : place_by_value values thread ≡ place

-- the thread has the value
pub record HasValue (values : List ℕ) (value thread : ℕ) : Type 0 where
  pub within : thread < length values
  pub has : slice_index values thread ≡ value

-- the value is one of those to give, from 1 up
abbrev pub IsLow : ℕ → ℕ → Type 0
IsLow count value = (1 ≤ value) × (value ≤ count)

-- what a `Ranks` keeps true: each thread has the value that the order gave it, or was lowered, and
-- who was lowered to each value, from 1 up, is who has it
pub record AreLowered (order values : List ℕ) (lowered : List (Option ℕ)) : Type 0 where
  pub few_threads : length order ≤ MAX_THREADS
  pub few_values : length lowered ≤ MAX_POINTS
  pub is_order : IsOrder order
  pub threads : length values ≡ length order
  pub given : (thread : ℕ) → thread < length order
      → (slice_index values thread ≡ length lowered + length order - place_in_order order thread)
      ⊎ IsLow (length lowered) (slice_index values thread)
  pub holders : (index thread : ℕ) → index < length lowered
      → (slice_index_or lowered index None ≡ Some thread) ↔ HasValue values (index + 1) thread

-- the bit for the other thread in the thread's word is 1 exactly where the other has the greater
-- value (one that there isn't has 0)
abbrev pub SaysAbove : List ℕ → List ℕ → ℕ → ℕ → Type 0
SaysAbove values above thread other =
    bit_at (slice_index above thread) other
    ≡ (if nat_lt (slice_index values thread) (slice_index_or values other 0) then 1 else 0)

-- Of each thread there is a word, whose bits name the threads that have a greater value.
pub record AreAbove (values above : List ℕ) : Type 0 where
  pub threads : length above ≡ length values
  pub says : (thread other : ℕ) → thread < length values → other < MAX_THREADS
      → SaysAbove values above thread other

-- The same, but that one thread's value has changed since.
pub record AreAboveButOne (values above : List ℕ) (changed : ℕ) : Type 0 where
  pub threads : length above ≡ length values
  pub says : (thread other : ℕ) → thread < length values → other < MAX_THREADS
      → thread ≢ changed → other ≢ changed → SaysAbove values above thread other
