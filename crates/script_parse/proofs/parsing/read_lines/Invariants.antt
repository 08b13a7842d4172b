use Rattle.std.proofs.Common.{◌≡◌, ◌+◌, length, None}
use Rattle.pct_ask.specs.Lines.{lines_of}
use Rattle.script_parse.specs.Lookahead.{place_ahead}
use Rattle.script_parse.specs.Reading.{script_from}
use Rattle.script_parse.specs.States.{seen_state}
use Rattle.script_parse.proofs.parsing.read_lines.Given as goal

-- what the lines left make of what was read is what all lines make
abbrev pub invariant-loop-line : goal.invariant-loop-line
invariant-loop-line l = record {
  number : l.number + length (lines_of l.line-iterator) ≡ l.ahead.lines + 1;
  rest : script_from (place_ahead l.ahead) (seen_state l.state) l.number
      (lines_of l.line-iterator) ≡ script_from (place_ahead l.ahead) None 1 (lines_of l.bytes);
}
