use Rattle.std.proofs.Common.{◌≡◌, drop}
use Rattle.sync_store.specs.Effect.{all_through}
use Rattle.sync_store.proofs.release_list.ReleaseList.add_all.Given as goal

abbrev pub invariant-loop-thread : goal.invariant-loop-thread
invariant-loop-thread l =
    all_through l.last (drop l.thread-index l.arrived) l.self
    ≡ all_through l.last l.arrived l.initial.self
