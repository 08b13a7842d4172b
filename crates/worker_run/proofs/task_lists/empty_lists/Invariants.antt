use Rattle.std.proofs.Common.{◌≡◌, vec_len}
use Rattle.std.specs.Prelude.{vec_capacity}
use Rattle.worker_run.specs.Batches.{AreEmptyLists}
use Rattle.worker_run.proofs.task_lists.empty_lists.Given as goal

-- so many lists so far
abbrev pub invariant-loop-thread : goal.invariant-loop-thread
invariant-loop-thread g l = record {
  long : vec_len l.lists ≡ l._thread;
  capacity : vec_capacity l.lists ≡ l.threads;
  lists : AreEmptyLists l.tests l.lists.items;
}
