use Rattle.std.proofs.Common.{◌≡◌, ℕ, Option, Some, sym, ap, subst}
use Rattle.std.specs.Prelude.{◌==◌, IfOk}
use Rattle.script_parse.specs.Lookahead.{place_ahead}
use Rattle.script_parse.specs.Seen.{all_seen}
use Rattle.script_parse.specs.SeenParts.{seen_reader}
use Rattle.script_parse.specs.States.{seen_state, seen_step}
use Rattle.script_parse.specs.Part.{ReadPart}
use Rattle.script_parse.specs.Reading.{some_part, tokens_taken, line_said}
use Rattle.script_parse.proofs.parsing.read_tokens.Goals as goal

pub returns-in-Below : goal.returns-in-Below
returns-in-Below c =
    let told = subst (λ (total : ℕ). IfOk c.read_below.result
    (λ step. seen_step step ≡ some_part (tokens_taken (seen_reader c.in-Below.reader)
    (place_ahead c.args.ahead.now) c.args.number (c.args.number == total)
    (Some (all_seen c.args.tokens.now))))) c.lines.ensures c.read_below.ensures in
    subst (λ (state : Option ReadPart). IfOk c.read_below.result
    (λ step. seen_step step ≡ line_said state
    (place_ahead c.args.ahead.now) c.args.number (c.args.number == c.args.ahead.now.lines)
    (Some (all_seen c.args.tokens.now)))) (sym (ap seen_state c.in-Below.is)) told
