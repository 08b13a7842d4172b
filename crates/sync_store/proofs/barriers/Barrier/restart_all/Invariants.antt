use Rattle.std.proofs.Common.{◌≡◌, map, take}
use Rattle.sync_store.specs.Store.{new_barrier}
use Rattle.sync_store.proofs.barriers.Barrier.restart_all.Given as goal

abbrev pub invariant-loop-place : goal.invariant-loop-place
invariant-loop-place l = take l.place l.barriers ≡ map new_barrier (take l.place l.count-items)
