use Rattle.std.proofs.Common.{◌≡◌, ◌≤◌, ℕ, length, ◌⊎◌}
use Rattle.std.specs.Prelude.{slice_get}
use Rattle.worker_run.specs.Batches.{AreShares, Holds, IsListed}
use Rattle.worker_run.proofs.Loops.{AreListsBelow}
use Rattle.worker_run.proofs.task_lists.fill_lists.Given as goal

-- the first lists have their tasks; a thread that its share had has gone into them, or its share
-- has it still
abbrev pub invariant-loop-thread : goal.invariant-loop-thread
invariant-loop-thread g l = record {
  long : length l.lists ≡ length l.fn.lists;
  rest : (t : ℕ) → l.thread ≤ t → slice_get l.lists t ≡ slice_get l.fn.lists t;
  shares : AreShares g.B.Body.pending l.tests l.shares;
  lists : AreListsBelow g.B.Body.pending l.tests l.thread l.lists;
  shared : (i t : ℕ) → Holds l.fn.shares i t → Holds l.shares i t ⊎ IsListed l.lists i t;
}
