use Rattle.std.proofs.Common.{◌≡◌}
use Rattle.pct_ask.specs.Lines.{lines_of}
use Rattle.c_values.specs.NamesText.{with_lines, names_of_text}
use Rattle.c_values.proofs.names.names_of.Given as goal

abbrev pub invariant-loop-line : goal.invariant-loop-line
invariant-loop-line l = names_of_text l.text ≡ with_lines l.names (lines_of l.line-iterator)
