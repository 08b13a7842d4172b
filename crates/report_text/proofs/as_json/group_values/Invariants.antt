use Rattle.std.proofs.Common.{◌≡◌, take, map}
use Rattle.serde_json.specs.View.{view}
use Rattle.report_text.specs.Data.{group_data}
use Rattle.report_text.proofs.as_json.group_values.Given as goal

abbrev pub invariant-loop-group : goal.invariant-loop-group
invariant-loop-group l =
    map view l.values.items ≡ map (group_data l.names) (take l.group-index l.groups)
