use Rattle.std.proofs.Common.{◌≡◌, length}
use Rattle.kit_directives.proofs.directed.unknown_points.Given as goal

abbrev pub invariant-loop-place : goal.invariant-loop-place
invariant-loop-place l = length l.points.items ≡ l._place
