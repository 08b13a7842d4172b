use Rattle.std.proofs.Common.{◌≡◌, replicate}
use Rattle.sync_store.specs.Store.{new_rwlock}
use Rattle.sync_store.proofs.rwlocks.ReadWriteLock.several.Given as goal

abbrev pub invariant-loop : goal.invariant-loop
invariant-loop l = l.rwlocks.items ≡ replicate l.counter (new_rwlock l.threads)
