-- The run of a seed as numbers (this project's coding).
use Rattle.std.specs.Prelude.{◌≡◌, ◌≤◌, Option, Some, List, length}
use Rattle.std.specs.Option.{option_map}
use Rattle.pct_ask.specs.declared.event.Row.{Row}
use Rattle.c_values.specs.declared.row.PctRow.{PctRow}
use Rattle.c_values.specs.Outcomes.{verdict_said}
use Rattle.c_values.specs.Told.{all_said}
use Rattle.pct_ask.specs.declared.limits.TheConstants.{MAX_RUNS}

-- the run that the numbers say, where they say a verdict
abbrev pub row_said : PctRow → Option Row
row_said n =
    option_map (λ verdict. record { seed = n.seed; steps = n.steps; verdict = verdict })
    (verdict_said n.verdict)

-- the numbers say these runs, at most 100000 of them
pub record AreRows (numbers : List PctRow) (rows : List Row) : Type 0 where
  pub say : all_said row_said numbers ≡ Some rows
  pub few : length rows ≤ MAX_RUNS
