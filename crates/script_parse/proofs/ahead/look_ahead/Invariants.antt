use Rattle.std.proofs.Common.{◌≡◌, ◌++◌, List, ℕ}
use Rattle.pct_ask.specs.Lines.{lines_of}
use Rattle.script_parse.specs.Lookahead.{HasSeen}
use Rattle.script_parse.proofs.ahead.look_ahead.Given as goal

-- what is known is what the lines so far tell
abbrev pub invariant-loop-line : goal.invariant-loop-line
invariant-loop-line l =
    (texts : List (List ℕ)) × (texts ++ lines_of l.line-iterator ≡ lines_of l.bytes)
    × HasSeen l.ahead texts
