use Rattle.std.proofs.Common.{length}
use Rattle.test_steps.proofs.slow.+slow_point.Given as goal

abbrev pub decreases-slow_point : goal.decreases-slow_point
decreases-slow_point l = length l.points.now
