use Rattle.std.proofs.Common.{◌≡◌, ◌≤◌, length}
use Rattle.pct_ask.specs.Tokens.{token_pieces}
use Rattle.script_parse.proofs.token.without_blanks.Given as goal

abbrev pub invariant-loop-rest : goal.invariant-loop-rest
invariant-loop-rest l =
    (token_pieces l.rest ≡ token_pieces l.line) × (length l.rest ≤ length l.line)

abbrev pub decreases-loop-rest : goal.decreases-loop-rest
decreases-loop-rest l = length l.rest
