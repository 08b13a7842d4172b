-- The verdict's text is read as it is.
use Rattle.std.proofs.Common.{sym, ◌∙◌, ap}
use Rattle.pct_ask.specs.VerdictWords.{words_of, verdict_of_words}
use Rattle.pct_ask.proofs.laws.VerdictsRead.{ReadsAs-words}
use Rattle.directive.specs.Reading.{end_of}
use Rattle.directive.proofs.row.read_end.Goals as goal

pub returns-in-NoForm : goal.returns-in-NoForm
returns-in-NoForm c =
    let read = c.read_verdict.ensures.only
    (verdict_of_words c.args.names.now (words_of c.args.text.now))
    (ReadsAs-words c.args.names.now c.args.text.now) in
    ap end_of (sym c.in-NoForm.is ∙ read)

pub returns-in-UnknownName : goal.returns-in-UnknownName
returns-in-UnknownName c =
    let read = c.read_verdict.ensures.only
    (verdict_of_words c.args.names.now (words_of c.args.text.now))
    (ReadsAs-words c.args.names.now c.args.text.now) in
    ap end_of (sym c.in-UnknownName.is ∙ read)

pub returns-in-Is : goal.returns-in-Is
returns-in-Is c =
    let read = c.read_verdict.ensures.only
    (verdict_of_words c.args.names.now (words_of c.args.text.now))
    (ReadsAs-words c.args.names.now c.args.text.now) in
    ap end_of (sym c.in-Is.is ∙ read)
