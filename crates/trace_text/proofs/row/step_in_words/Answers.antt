-- The parts of a step, one after another.
use Rattle.std.proofs.Common.{sym, ◌∙◌}
use Rattle.std.specs.Int.{w64}
use Rattle.std.proofs.lemmas.Int.{to_z-of_z}
use Rattle.trace_text.proofs.Ends.{step-unanswered, step-whole}
use Rattle.trace_text.proofs.Values.{Some-i64_in}
use Rattle.trace_text.proofs.row.step_in_words.Goals as goal

pub returns-in_err-answer : goal.returns-in_err-answer
returns-in_err-answer c =
    let around = c.args.around.now in
    c.from_residual-in_err-answer.ensures
    ∙ sym (step-unanswered c.args.names.now around.number.now around.thread.now around.line.now
    c.args.ask around.sign.now around.answer.now c.in_ok-number.number c.in_ok-line.line
    (sym c.natural_of.ensures ∙ c.in_ok-number.was) (sym c.line_number.ensures ∙ c.in_ok-line.was)
    (sym c.is_sign.ensures ∙ c.if-not-is_sign.false)
    (sym c.i64_in.ensures ∙ c.in_err-answer.was))

pub returns : goal.returns
returns c =
    let around = c.args.around.now in
    let value = sym c.i64_in.ensures ∙ c.in_ok-answer.was in
    let fits = (Some-i64_in around.answer.now c.in_ok-answer.answer value).1 in
    let number = c.in_ok-number.number in
    let line = c.in_ok-line.line in
    c.numbered_step.ensures
    ∙ rw (c.object-thread.ensures, to_z-of_z w64 c.in_ok-answer.answer fits)
    (sym (step-whole c.args.names.now around.number.now around.thread.now around.line.now
    c.args.ask around.sign.now around.answer.now number line c.in_ok-answer.answer
    (sym c.natural_of.ensures ∙ c.in_ok-number.was) (sym c.line_number.ensures ∙ c.in_ok-line.was)
    (sym c.is_sign.ensures ∙ c.if-not-is_sign.false) value))
