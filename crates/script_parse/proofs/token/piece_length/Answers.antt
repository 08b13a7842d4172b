use Rattle.std.proofs.Common.{sym, ◌∙◌}
use Rattle.std.proofs.Math.Numerals.{one-add}
use Rattle.script_parse.proofs.Pieces.{pieces_of-word}
use Rattle.script_parse.proofs.token.piece_length.Goals as goal

pub returns-then-is_word_byte-clause-piece : goal.returns-then-is_word_byte-clause-piece
returns-then-is_word_byte-clause-piece c =
    rw one-add (pieces_of-word c.args.first c.args.after.now c.word_length.result
    (sym c.is_word_byte.ensures ∙ c.if-is_word_byte.true) c.word_length.ensures.length)
