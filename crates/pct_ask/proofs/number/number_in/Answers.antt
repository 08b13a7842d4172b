-- A word is the number in range that it is the decimal of.
use Rattle.std.proofs.Common.{sym, ap, ◌∙◌, arith}
use Rattle.std.specs.Int.{w128}
use Rattle.std.proofs.lemmas.Int.{to_z-of_z}
use Rattle.pct_ask.specs.Numbers.{in_range}
use Rattle.pct_ask.proofs.RangeLemmas.{number_in-none, number_in-number}
use Rattle.pct_ask.proofs.number.number_in.Goals as goal

pub returns-in_err-number-clause-number : goal.returns-in_err-number-clause-number
returns-in_err-number-clause-number c =
    c.from_residual.ensures
    ∙ sym (number_in-none c.args.low c.args.high c.args.text.now c.read_number.result (omega arith)
    c.read_number.ensures.every c.in_err-number.was)

pub returns-clause-number : goal.returns-clause-number
returns-clause-number c =
    let number = c.in_ok-number.number in
    let fits = c.in_ok-number.ensures.fits in
    c.in_range.ensures.number
    ∙ ap (in_range c.args.low c.args.high) (to_z-of_z w128 number fits)
    ∙ sym (number_in-number c.args.low c.args.high c.args.text.now number (omega arith) fits
    c.in_ok-number.ensures.spelled)
