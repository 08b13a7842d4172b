use Rattle.std.proofs.Common.{◌≡◌, take, map}
use Rattle.std.specs.List.{flat_map}
use Rattle.pct_ask.specs.TraceText.{line_text}
use Rattle.pct_top.specs.commands.Locks.{nesting_words}
use Rattle.pct_top.proofs.commands.locks.write_report.Given as goal

abbrev pub invariant-loop-nesting : goal.invariant-loop-nesting
invariant-loop-nesting l =
    l.text.items ≡ flat_map line_text
    (map (nesting_words l.names) (take l.nesting-index l.nestings))
