use Rattle.std.proofs.Common.{◌+◌, ◌*◌, length}
use Rattle.worker_run.proofs.workers.+workers.Given as goal

abbrev pub decreases-start_workers : goal.decreases-start_workers
decreases-start_workers g l = 4 * length l.lists.items

abbrev pub decreases-start_worker : goal.decreases-start_worker
decreases-start_worker g l = 4 * length l.lists.items + 3

abbrev pub decreases-start_worker-scope : goal.decreases-start_worker-scope
decreases-start_worker-scope g l = 4 * length l.lists.items + 2
