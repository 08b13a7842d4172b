use Rattle.std.proofs.Common.{◌-◌, ◌*◌}
use Rattle.test_runs.proofs.turns.+team.Given as goal

abbrev pub decreases-join+arg3 : goal.decreases-join+arg3
decreases-join+arg3 g l = 3 * (64 - l.thread) - 1

abbrev pub decreases-play_all : goal.decreases-play_all
decreases-play_all g l = 3 * (64 - l.thread)
