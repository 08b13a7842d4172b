use Rattle.std.proofs.Common.{◌≡◌, take, map}
use Rattle.serde_json.specs.View.{view}
use Rattle.report_text.specs.SweepData.{name_data}
use Rattle.report_text.proofs.sweep_as_json.name_values.Given as goal

abbrev pub invariant-loop-thread : goal.invariant-loop-thread
invariant-loop-thread l =
    map view l.values.items ≡ map (name_data l.names) (take l.thread-index l.order)
