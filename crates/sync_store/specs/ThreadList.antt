-- What a list of threads keeps beside the threads.
use Rattle.std.specs.Prelude.{◌≡◌, ◌<◌, ◌≤◌, ℕ, Bool, false, List, [], ◌∷◌, All, slice_index_or}
use Rattle.sync_store.specs.Store.{is_on}
use Rattle.pct_ask.specs.declared.limits.TheConstants.{MAX_THREADS}

-- no thread is on the list twice
abbrev pub IsOnce : List ℕ → Type 0
IsOnce [] = Unit {0}
IsOnce (t ∷ threads) = (is_on t threads ≡ false) × IsOnce threads

-- the threads are different and below 64, a flag for each says whether it is there, and there is
-- room for all
pub record IsThreadList (threads : List ℕ) (room : ℕ) (present : List Bool) : Type 0 where
  pub once : IsOnce threads
  pub below : All (λ t. t < MAX_THREADS) threads
  pub marked : (t : ℕ) → t < MAX_THREADS → slice_index_or present t false ≡ is_on t threads
  pub reserved : MAX_THREADS ≤ room
