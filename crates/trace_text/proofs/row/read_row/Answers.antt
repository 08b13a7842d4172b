-- A line that isn't the verdict's is a step's.
use Rattle.std.proofs.Common.{sym, ◌∙◌, ap}
use Rattle.pct_ask.specs.VerdictWords.{words_of}
use Rattle.trace_text.specs.reader.StepLines.{step_of_words}
use Rattle.pct_ask.specs.Pieces.{seen}
use Rattle.trace_text.proofs.Ends.{row-step, step_of_words-take}
use Rattle.trace_text.proofs.row.read_row.Goals as goal

pub returns-in_ok-words-in-None : goal.returns-in_ok-words-in-None
returns-in_ok-words-in-None c =
    let step = step_of_words c.args.names.now c.args.version in
    c.read_step.ensures
    ∙ ap (λ ws. step (seen ws)) c.as_slice.ensures.value
    ∙ ap step c.in_ok-words-in-None.ensures
    ∙ step_of_words-take c.args.names.now c.args.version (words_of c.args.line.now)
    ∙ sym (row-step c.args.names.now c.args.version c.args.line.now c.in-None.ensures.cases)
