use Rattle.std.proofs.Common.{◌≡◌, ℕ, All, length, replicate, take}
use Rattle.sync_store.specs.Store.{RwLockState, new_rwlock}
use Rattle.sync_store.proofs.rwlocks.ReadWriteLock.restart_all.Given as goal

abbrev pub invariant-loop-rwlock : goal.invariant-loop-rwlock
invariant-loop-rwlock l =
    (threads : ℕ) → All (λ (rwlock : RwLockState). length rwlock.reads ≡ threads) l.fn.rwlocks
    → All (λ (rwlock : RwLockState). length rwlock.reads ≡ threads) l.rwlocks
    × (take l.rwlock-index l.rwlocks ≡ replicate l.rwlock-index (new_rwlock threads))
