use Rattle.std.proofs.Common.{length}
use Rattle.test_steps.proofs.slow.+slow_moment.Given as goal

abbrev pub decreases-slow_moment : goal.decreases-slow_moment
decreases-slow_moment l = length l.moments.now
