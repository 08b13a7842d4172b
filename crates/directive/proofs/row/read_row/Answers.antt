-- A line that isn't the verdict's is a moment's.
use Rattle.std.proofs.Common.{sym, ◌∙◌, ap}
use Rattle.pct_ask.specs.VerdictWords.{words_of}
use Rattle.directive.specs.Reading.{after_words}
use Rattle.pct_ask.specs.Pieces.{seen}
use Rattle.directive.proofs.Bodies.{row-after, after_words-take}
use Rattle.directive.proofs.row.read_row.Goals as goal

pub returns-in_ok-words-in-None : goal.returns-in_ok-words-in-None
returns-in_ok-words-in-None c =
    let says = after_words c.args.names.now in
    c.after_words.ensures
    ∙ ap (λ ws. says (seen ws)) c.as_slice.ensures.value
    ∙ ap says c.in_ok-words-in-None.ensures
    ∙ after_words-take c.args.names.now (words_of c.args.line.now)
    ∙ sym (row-after c.args.names.now c.args.line.now c.in-None.ensures.cases)
