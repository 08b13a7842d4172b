use Rattle.std.proofs.Common.{◌≡◌, length}
use Rattle.kit_directives.proofs.directed.run_by_moments.Given as goal

abbrev pub invariant-loop-round : goal.invariant-loop-round
invariant-loop-round g l = length l.points.items ≡ length l.moments
