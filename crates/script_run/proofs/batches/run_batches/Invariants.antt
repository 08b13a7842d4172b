use Rattle.std.proofs.Common.{◌≤◌, ◌-◌}
use Rattle.script_run.proofs.batches.run_batches.Given as goal

-- the runs before the start of the next batch are taken
abbrev pub invariant-batches : goal.invariant-batches
invariant-batches g l = record {
  within : l.start ≤ l.total;
  some : 1 ≤ l.size;
  few : l.size ≤ l.most;
  stands : g.T.Batch.stands l.batch l.kept l.start;
}

abbrev pub decreases-batches : goal.decreases-batches
decreases-batches g l = l.total - l.start
