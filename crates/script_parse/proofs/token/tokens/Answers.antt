use Rattle.std.proofs.Common.{◌≡◌, ◌++◌, ◌∷◌, [], sym, ap, ◌∙◌}
use Rattle.std.proofs.lemmas.List.{map_push}
use Rattle.pct_ask.specs.Tokens.{tokens_of}
use Rattle.script_parse.specs.Seen.{seen, all_seen}
use Rattle.script_parse.proofs.Pieces.{with_front, with_front-push}
use Rattle.script_parse.proofs.token.tokens.Goals as goal

pub loop-tokens-preserved : goal.loop-tokens-preserved
loop-tokens-preserved c =
    let token = c.in-Token.token in
    let front = all_seen c.loop-tokens.tokens.items in
    let longer : all_seen c.push.new.self.items ≡ front ++ seen token ∷ [] =
    rw c.in_ok-push-in-Token.ensures.items (map_push seen c.loop-tokens.tokens.items token) in
    rw longer (sym (with_front-push front (seen token) (tokens_of c.in-Token.others.now))
    ∙ sym (ap (with_front front) c.in-Token.ensures.0) ∙ c.loop-tokens.invariant)
