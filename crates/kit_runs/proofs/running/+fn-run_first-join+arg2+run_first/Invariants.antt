use Rattle.std.proofs.Common.{◌+◌, ◌*◌}
use Rattle.kit_runs.proofs.running.+fn-run_first-join+arg2+run_first.Given as goal

abbrev pub decreases-join+arg2 : goal.decreases-join+arg2
decreases-join+arg2 g l = 2 * l.last + 1

abbrev pub decreases-run_first : goal.decreases-run_first
decreases-run_first g l = 2 * l.count
