use Rattle.std.proofs.Common.{◌≡◌, drop}
use Rattle.sync_store.specs.Effect.{put_all_last}
use Rattle.sync_store.proofs.thread_list.ThreadList.move_to.Given as goal

abbrev pub invariant-loop-thread : goal.invariant-loop-thread
invariant-loop-thread l =
    put_all_last (drop l.thread-index l.thread-items) l.other
    ≡ put_all_last l.thread-items l.initial.other
