use Rattle.std.proofs.Common.{◌≤◌}
use Rattle.worker_run.proofs.many.most_threads.Given as goal

abbrev pub invariant-loop-index : goal.invariant-loop-index
invariant-loop-index g l = l.most ≤ 64
