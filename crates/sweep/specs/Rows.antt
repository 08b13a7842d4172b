-- A sweep: a test is run once for each choice of an order and change points, and each run makes a
-- row (this project).
use Rattle.std.specs.Prelude.{ℕ, suc, List, [], ◌∷◌, length, Option}
use Rattle.std.specs.Option.{option_map}
use Rattle.pct_ask.specs.declared.Deal.{Deal}
use Rattle.pct_ask.specs.declared.event.Row.{Row}
use Rattle.pct_ask.specs.Bodies.{Pending}
use Rattle.worker_run.specs.Run.{Run, run}
use Rattle.sweep.specs.Choices.{choices}
use Rattle.sweep.specs.declared.choice.Choice.{Choice}

-- what the runs of a sweep have in common: what the threads share, their bodies, the number of
-- change points, from how many steps they are, and the limit
pub record SweepSetup : Type 0 where
  pub deal : Deal
  pub bodies : List Pending
  pub many : ℕ
  pub steps : ℕ
  pub limit : ℕ

-- the run that an order and points lead to
abbrev pub leads : SweepSetup → List ℕ → List ℕ → Option Run
leads setup order points = run setup.deal setup.bodies order points setup.limit

-- the row of a choice: its place among all, the number of its run's steps, and the verdict
abbrev pub row_of_run : ℕ → Run → Row
row_of_run place ended = record { seed = place; steps = length ended.0; verdict = ended.1 }

-- the row of a choice at its place, where there is such a run
abbrev pub row_of_choice : SweepSetup → ℕ → Choice → Option Row
row_of_choice setup place choice =
    option_map (row_of_run place) (leads setup choice.order choice.points)

-- a row for each choice, of which the first has this place
abbrev pub rows_from : SweepSetup → ℕ → List Choice → List (Option Row)
rows_from setup place [] = []
rows_from setup place (choice ∷ more) =
    row_of_choice setup place choice ∷ rows_from setup (suc place) more

-- all choices of an order of the deal's threads and of so many points in 1..k
abbrev pub choices_of : SweepSetup → List Choice
choices_of setup = choices setup.deal.threads setup.steps setup.many
