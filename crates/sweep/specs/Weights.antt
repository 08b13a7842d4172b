-- For how many choices a run counts (this project). A change point lowers the thread that takes the
-- step of that number right after it: from the run's last step on, none makes a difference. Nothing
-- here is needed to read a public contract.
use Rattle.std.specs.Prelude.{ℕ, suc, ◌-◌, ◌*◌, max, nat_lt, nat_eq, List, [], ◌∷◌, ◌++◌}
use Rattle.std.specs.Prelude.{if◌then◌else◌}
use Rattle.std.specs.Prelude.{length, Option, Some, None, replicate}
use Rattle.pct_ask.specs.declared.event.Row.{Row}
use Rattle.worker_run.specs.Run.{Run}
use Rattle.sweep.specs.declared.choice.Choice.{Choice}
use Rattle.sweep.specs.Rows.{SweepSetup, leads, row_of_choice}

-- A point below a run's length stands for itself; the run's length stands for all points from it to
-- k; and a point above it stands for none.
abbrev pub point_weight : ℕ → ℕ → ℕ → ℕ
point_weight k long p = if nat_lt p long then 1 else (if nat_eq p long then suc k - long else 0)

-- a list stands for as many as its points do
abbrev pub weight : ℕ → ℕ → List ℕ → ℕ
weight k long [] = 1
weight k long (p ∷ points) = point_weight k long p * weight k long points

-- from which point on all are the same: from the run's last step, and from the first point, 1
abbrev pub top : Option Run → ℕ
top None = 1
top (Some ran) = max (length ran.0) 1

-- a row, so many times
abbrev pub copies : ℕ → Option Row → List Row
copies n None = []
copies n (Some row) = replicate n row

-- the row of each choice, of which the first has this place, as often as it is told
abbrev pub spread : (Choice → ℕ) → SweepSetup → ℕ → List Choice → List Row
spread often setup place [] = []
spread often setup place (choice ∷ more) =
    copies (often choice) (row_of_choice setup place choice) ++ spread often setup (suc place) more

-- as often as there are choices for which it stands
abbrev pub often_in : SweepSetup → Choice → ℕ
often_in setup choice =
    weight setup.steps (top (leads setup choice.order choice.points)) choice.points
