-- A word is the i64 that it is the decimal of.
use Rattle.std.proofs.Common.{sym, ap, ◌∙◌}
use Rattle.std.specs.Int.{w128}
use Rattle.std.proofs.lemmas.Int.{to_z-of_z}
use Rattle.trace_text.specs.reader.Numbers.{small}
use Rattle.trace_text.proofs.Values.{i64_in-none, i64_in-number}
use Rattle.trace_text.proofs.number.i64_in.Goals as goal

pub returns-in_err-number : goal.returns-in_err-number
returns-in_err-number c =
    c.from_residual.ensures ∙ sym (i64_in-none c.args.word.now c.read_number.result
    c.read_number.ensures.every c.in_err-number.was)

pub returns : goal.returns
returns c =
    let number = c.in_ok-number.number in
    c.as_value.ensures ∙ ap small (to_z-of_z w128 number c.in_ok-number.ensures.fits)
    ∙ sym (i64_in-number c.args.word.now number c.in_ok-number.ensures.fits
    c.in_ok-number.ensures.spelled)
