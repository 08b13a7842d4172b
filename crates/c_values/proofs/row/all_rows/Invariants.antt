use Rattle.std.proofs.Common.{◌≡◌, drop}
use Rattle.c_values.specs.Rows.{row_said}
use Rattle.c_values.specs.Told.{all_said}
use Rattle.c_values.proofs.SaidSteps.{with_rest}
use Rattle.c_values.proofs.row.all_rows.Given as goal

abbrev pub invariant-loop-one : goal.invariant-loop-one
invariant-loop-one l =
    all_said row_said l.numbers ≡ with_rest row_said l.rows (drop l.one-index l.numbers)
