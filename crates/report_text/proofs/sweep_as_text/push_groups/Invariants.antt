use Rattle.std.proofs.Common.{◌≡◌, ◌++◌, take, map}
use Rattle.std.specs.List.{flat_map}
use Rattle.pct_ask.specs.TraceText.{line_text}
use Rattle.report_text.specs.SweepText.{swept_words}
use Rattle.report_text.proofs.sweep_as_text.push_groups.Given as goal

abbrev pub invariant-loop-group : goal.invariant-loop-group
invariant-loop-group l =
    l.out.items ≡ l.fn.out.items ++ flat_map line_text
    (map (swept_words l.names) (take l.group-index l.groups))
