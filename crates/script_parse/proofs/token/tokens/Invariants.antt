use Rattle.std.proofs.Common.{◌≡◌, length}
use Rattle.pct_ask.specs.Tokens.{tokens_of}
use Rattle.script_parse.specs.Seen.{all_seen}
use Rattle.script_parse.proofs.Pieces.{with_front}
use Rattle.script_parse.proofs.token.tokens.Given as goal

-- the tokens so far and those of the rest are those of the line
abbrev pub invariant-loop-tokens : goal.invariant-loop-tokens
invariant-loop-tokens l = with_front (all_seen l.tokens.items) (tokens_of l.rest) ≡ tokens_of l.line

abbrev pub decreases-loop-tokens : goal.decreases-loop-tokens
decreases-loop-tokens l = length l.rest
