-- What a store keeps beside its parts.
use Rattle.std.specs.Prelude.{◌≡◌, ◌≤◌, ℕ, List, length, All}
use Rattle.sync_store.specs.Store.{RwLockState}
use Rattle.pct_ask.specs.declared.limits.TheConstants.{MAX_THREADS}

-- there are at most 64 threads, and each read-write lock counts the read holds of each
pub record CountsReads (threads : ℕ) (rwlocks : List RwLockState) : Type 0 where
  pub few : threads ≤ MAX_THREADS
  pub reads : All (λ rwlock. length rwlock.reads ≡ threads) rwlocks
