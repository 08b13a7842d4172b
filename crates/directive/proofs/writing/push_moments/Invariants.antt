use Rattle.std.proofs.Common.{◌≡◌, ◌++◌, drop, map}
use Rattle.pct_ask.specs.Lines.{text_of_lines}
use Rattle.directive.specs.DirectiveText.{moment_line}
use Rattle.directive.proofs.writing.push_moments.Given as goal

-- what is written, with the lines that are left, is all
abbrev pub invariant-loop-moment : goal.invariant-loop-moment
invariant-loop-moment l =
    l.out.items ++ text_of_lines (map (moment_line l.names) (drop l.moment-index l.moments))
    ≡ l.fn.out.items ++ text_of_lines (map (moment_line l.names) l.moments)
