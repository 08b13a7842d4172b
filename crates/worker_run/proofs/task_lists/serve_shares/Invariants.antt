use Rattle.std.proofs.Common.{◌≡◌, ◌<◌, ◌≤◌, ℕ, length}
use Rattle.std.specs.Prelude.{slice_get}
use Rattle.worker_run.specs.Batch.{IsSeatOf}
use Rattle.worker_run.specs.Batches.{Holds, ToldAt}
use Rattle.worker_run.proofs.Loops.{Below}
use Rattle.worker_run.proofs.task_lists.serve_shares.Given as goal

abbrev pub invariant-loop-index : goal.invariant-loop-index
invariant-loop-index g l = record {
  long : length l.shares ≡ length l.fn.shares;
  rest : (i : ℕ) → l.index ≤ i → slice_get l.shares i ≡ slice_get l.fn.shares i;
  seats : Below l.index (λ test share. IsSeatOf test.lock.now share.seat) l.tests l.shares;
  told : (i t : ℕ) → i < l.index → Holds l.fn.shares i t
      → ToldAt g.B.Body.pending l.tests l.shares i t;
}
