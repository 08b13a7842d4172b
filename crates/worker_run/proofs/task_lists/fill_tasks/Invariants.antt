use Rattle.std.proofs.Common.{◌≡◌, ℕ, length, vec_len, ◌⊎◌}
use Rattle.std.specs.Prelude.{vec_capacity}
use Rattle.worker_run.specs.Batch.{IsTask}
use Rattle.worker_run.specs.Batches.{AreShares, IsThere, Holds}
use Rattle.worker_run.proofs.Loops.{Along}
use Rattle.worker_run.proofs.task_lists.fill_tasks.Given as goal

-- the tasks so far are of the first tests; a thread that its share had has gone into them, or its
-- share has it still
abbrev pub invariant-loop-index : goal.invariant-loop-index
invariant-loop-index g l = record {
  long : vec_len l.tasks ≡ l.index;
  capacity : vec_capacity l.tasks ≡ length l.tests;
  shares : AreShares g.B.Body.pending l.tests l.shares;
  tasks : Along (λ test task. IsTask g.B.Body.pending test l.thread task) l.tests l.tasks.items;
  shared : (i t : ℕ) → Holds l.fn.shares i t
      → Holds l.shares i t ⊎ ((t ≡ l.thread) × IsThere l.tasks.items i);
}
