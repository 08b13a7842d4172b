use Rattle.std.proofs.Common.{◌≡◌, ◌++◌, take, map}
use Rattle.std.specs.Prelude.{decimal}
use Rattle.report_text.specs.SweepText.{spaced}
use Rattle.report_text.proofs.sweep_as_text.push_points.Given as goal

abbrev pub invariant-loop-point : goal.invariant-loop-point
invariant-loop-point l =
    l.out.items ≡ l.fn.out.items ++ spaced (map decimal (take l.point-index l.points))
