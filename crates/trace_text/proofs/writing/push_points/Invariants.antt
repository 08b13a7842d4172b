use Rattle.std.proofs.Common.{◌≡◌, ◌++◌, take, map}
use Rattle.std.specs.Prelude.{codes, decimal}
use Rattle.trace_text.specs.Spaced.{behind_spaces}
use Rattle.trace_text.proofs.writing.push_points.Given as goal

abbrev pub invariant-loop-point : goal.invariant-loop-point
invariant-loop-point l =
    l.out.items ≡ l.fn.out.items ++ (codes "points"
    ++ behind_spaces (map decimal (take l.point-index l.points)))
