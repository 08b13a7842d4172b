use Rattle.std.proofs.Common.{◌≡◌, map, take}
use Rattle.sync_store.specs.Store.{new_barrier}
use Rattle.sync_store.proofs.barriers.Barrier.several.Given as goal

abbrev pub invariant-loop-count : goal.invariant-loop-count
invariant-loop-count l = l.barriers.items ≡ map new_barrier (take l.count-index l.count-items)
