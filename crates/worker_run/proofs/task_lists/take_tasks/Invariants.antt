use Rattle.std.proofs.Common.{ℕ, ◌⊎◌}
use Rattle.worker_run.specs.Batch.{IsServedTask}
use Rattle.worker_run.specs.Batches.{AreShares, AreTasks, IsThere, Holds}
use Rattle.worker_run.proofs.Loops.{Below}
use Rattle.worker_run.proofs.task_lists.take_tasks.Given as goal

abbrev pub invariant-loop-index : goal.invariant-loop-index
invariant-loop-index g l = record {
  shares : AreShares g.B.Body.pending l.tests l.shares;
  tasks : AreTasks g.B.Body.pending l.tests l.thread l.tasks;
  done : Below l.index (λ test task. IsServedTask g.B.Body.pending test l.thread task) l.tests
      l.tasks;
  kept : (i t : ℕ) → Holds l.fn.shares i t → Holds l.shares i t;
  taken : (i : ℕ) → IsThere l.fn.tasks i → Holds l.shares i l.thread ⊎ IsThere l.tasks i;
}
