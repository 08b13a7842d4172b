-- There are as many as numbers.
use Rattle.std.proofs.Common.{arith, sym, ◌∙◌}
use Rattle.c_values.specs.Rows.{row_said}
use Rattle.c_values.proofs.SaidSteps.{length-said}
use Rattle.c_values.proofs.row.rows_of.Goals as goal

pub returns-then-numbers : goal.returns-then-numbers
returns-then-numbers c = λ told are.
    omega (arith, are.few, length-said row_said c.args.numbers.now told are.say)

pub returns-in-Some : goal.returns-in-Some
returns-in-Some c =
    let say = sym c.in_ok-rows.ensures ∙ c.in-Some.is in record {
      say = say;
      few = omega (arith, length-said row_said c.args.numbers.now c.in-Some.rows say);
    }
