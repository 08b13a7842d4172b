use Rattle.std.proofs.Common.{◌∷◌}
use Rattle.std.proofs.Common.{sym, arith}
use Rattle.script_parse.proofs.Pieces.{IsCut, tokens_of-none, tokens_of-some}
use Rattle.script_parse.specs.Seen.{seen}
use Rattle.script_parse.proofs.token.next_token.Goals as goal
use Rattle.script_parse.proofs.token.next_token.Goals.{After-token_of}

cut : (c : After-token_of) → IsCut c.args.line.now c.without_blanks-rest.result.now
    (c.in-Some.first.now ∷ c.in-Some.after.now) c.split_at.result.0.now c.split_at.result.1.now
    c.piece_length-length.result
cut c = record {
  blanks = c.without_blanks-rest.ensures.same;
  plain = c.in-Some.ensures.cases.0;
  begins = c.piece_length-length.ensures.piece;
  some = c.if-length-eq0.false;
  front = c.split_at.ensures.front;
  back = c.split_at.ensures.back;
}

pub returns-in-None : goal.returns-in-None
returns-in-None c =
    tokens_of-none (cut (goal.at.returns-in-None c).After-token_of) (sym c.in-None.ensures)

pub returns-in-Some-token_of : goal.returns-in-Some-token_of
returns-in-Some-token_of c = (
  tokens_of-some (seen c.in-Some-token_of.token)
      (cut (goal.at.returns-in-Some-token_of c).After-token_of) (sym c.in-Some-token_of.ensures),
  omega arith,
)
