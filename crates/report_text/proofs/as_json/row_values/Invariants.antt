use Rattle.std.proofs.Common.{◌≡◌, take, map}
use Rattle.serde_json.specs.View.{view}
use Rattle.report_text.specs.Data.{row_data}
use Rattle.report_text.proofs.as_json.row_values.Given as goal

abbrev pub invariant-loop-row : goal.invariant-loop-row
invariant-loop-row l = map view l.values.items ≡ map (row_data l.names) (take l.row-index l.rows)
