use Rattle.std.proofs.Common.{◌≡◌, ◌<◌, ◌≤◌, ℕ, length}
use Rattle.std.specs.Prelude.{slice_get}
use Rattle.worker_run.specs.Batches.{AreSeats, AreServedTasks, IsThere, ToldAt}
use Rattle.worker_run.proofs.task_lists.join_tasks.Given as goal

abbrev pub invariant-loop-index : goal.invariant-loop-index
invariant-loop-index g l = record {
  seats : AreSeats l.tests l.shares;
  long : length l.tasks ≡ length l.fn.tasks;
  rest : (i : ℕ) → l.index ≤ i → slice_get l.tasks i ≡ slice_get l.fn.tasks i;
  kept : (i t : ℕ) → ToldAt g.B.Body.pending l.tests l.fn.shares i t
      → ToldAt g.B.Body.pending l.tests l.shares i t;
  joined : (i t : ℕ) → AreServedTasks g.B.Body.pending l.tests t l.fn.tasks → i < l.index
      → IsThere l.fn.tasks i → ToldAt g.B.Body.pending l.tests l.shares i t;
}
