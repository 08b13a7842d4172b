use Rattle.std.proofs.Common.{◌≡◌, take, map}
use Rattle.serde_json.specs.View.{view}
use Rattle.report_text.specs.SweepData.{swept_data}
use Rattle.report_text.proofs.sweep_as_json.swept_values.Given as goal

abbrev pub invariant-loop-group : goal.invariant-loop-group
invariant-loop-group l =
    map view l.values.items ≡ map (swept_data l.names) (take l.group-index l.groups)
