-- The third line is the first piece of what is left.
use Rattle.std.proofs.Common.{ap, ◌∙◌}
use Rattle.trace_text.specs.reader.Heads.{points_on_line, point_words}
use Rattle.pct_ask.specs.VerdictWords.{words_of}
use Rattle.pct_ask.specs.Pieces.{seen}
use Rattle.trace_text.proofs.HeadWords.{head_line-cut, point_words-take}
use Rattle.trace_text.proofs.head.read_points.Goals as goal

pub returns : goal.returns
returns c =
    let cut = head_line-cut 3 points_on_line _ c.cut_line.result.0.now c.cut_line.result.1
    c.cut_line.ensures.pieces in
    let says = c.in_ok-points_in.ensures ∙ ap (λ ws. point_words (seen ws)) c.as_slice.ensures.value
    ∙ ap point_words c.in_ok-words.ensures
    ∙ point_words-take (words_of c.cut_line.result.0.now) in
    rw (cut, ← says) c.head_value.ensures
