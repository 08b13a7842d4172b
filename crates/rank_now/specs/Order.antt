-- Orders of n threads: lists that name each number below n once.
use Rattle.std.specs.Prelude.{◌≡◌, ◌≢◌, ℕ, ◌<◌, ◌≤◌, ◌⊎◌, List, length, slice_index, take}
use Rattle.std.specs.List.{Contains}

-- an order names each thread below its length, and none twice
pub record IsOrder (order : List ℕ) : Type 0 where
  pub below : (place : ℕ) → place < length order → slice_index order place < length order
  pub once : (first second : ℕ) → first < second → second < length order
      → slice_index order first ≢ slice_index order second
  pub all : (thread : ℕ) → thread < length order → Contains order thread

-- an order of so many threads
pub record IsOrderOf (threads : ℕ) (order : List ℕ) : Type 0 where
  pub is_order : IsOrder order
  pub whole : length order ≡ threads

-- the thread at the place is not below the length, or was named before
abbrev pub IsWrongAt : List ℕ → ℕ → Type 0
IsWrongAt order place =
    (length order ≤ slice_index order place) ⊎ Contains (take place order) (slice_index order place)

-- the first place at which the list is no order
pub record IsFirstWrong (order : List ℕ) (at : ℕ) : Type 0 where
  pub within : at < length order
  pub wrong : IsWrongAt order at
  pub before : (place : ℕ) → place < at → ¬ IsWrongAt order place
