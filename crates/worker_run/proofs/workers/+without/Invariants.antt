use Rattle.std.proofs.Common.{◌+◌, ◌*◌, length}
use Rattle.worker_run.proofs.workers.+without.Given as goal

abbrev pub decreases-serve_lists : goal.decreases-serve_lists
decreases-serve_lists g l = 2 * length l.lists.items

abbrev pub decreases-go_without : goal.decreases-go_without
decreases-go_without g l = 2 * length l.lists.items + 1
