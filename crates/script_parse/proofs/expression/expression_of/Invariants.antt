use Rattle.std.proofs.Common.{◌≡◌, drop}
use Rattle.script_parse.specs.Seen.{all_seen}
use Rattle.script_parse.specs.Machine.{expression_from, expression_in}
use Rattle.script_parse.specs.Frames.{seen_pending}
use Rattle.script_parse.proofs.expression.expression_of.Given as goal

-- what the tokens left make of what was read is what all tokens make
abbrev pub invariant-loop-token : goal.invariant-loop-token
invariant-loop-token l =
    expression_from (seen_pending l.pending)
    (all_seen (drop l.token-index l.tokens)) ≡ expression_in (all_seen l.tokens)
