use Rattle.std.proofs.Common.{◌≡◌, take, map}
use Rattle.serde_json.specs.View.{view}
use Rattle.report_text.specs.SweepData.{point_data}
use Rattle.report_text.proofs.sweep_as_json.point_values.Given as goal

abbrev pub invariant-loop-point : goal.invariant-loop-point
invariant-loop-point l =
    map view l.values.items ≡ map point_data (take l.point-index l.points)
