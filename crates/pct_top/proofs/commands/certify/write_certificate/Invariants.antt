use Rattle.std.proofs.Common.{◌≡◌, take, map}
use Rattle.std.specs.List.{flat_map}
use Rattle.pct_ask.specs.TraceText.{line_text}
use Rattle.pct_top.specs.commands.Certify.{certificate_row_words}
use Rattle.pct_top.proofs.commands.certify.write_certificate.Given as goal

abbrev pub invariant-loop-row : goal.invariant-loop-row
invariant-loop-row l =
    l.text.items
    ≡ flat_map line_text (map (certificate_row_words l.names) (take l.row-index l.row-items))
