-- Between the run and the writing of its trace (this project).
use Rattle.std.specs.Prelude.{◌≡◌, ℕ, List}
use Rattle.pct_ask.specs.declared.verdict.Verdict.{Verdict}
use Rattle.pct_ask.specs.declared.verdict.Verdict.TheVariants.{Passed}
use Rattle.pct_ask.specs.Bodies.{Pending}
use Rattle.worker_run.specs.Run.{Run}
use Rattle.kit_main.specs.Showing.{IsShownRun, text_of_run}
use Rattle.kit_main.specs.declared.shown.Shown.{Shown}
use Rattle.kit_main.specs.declared.shown.Shown.TheVariants.{Done, Found}

-- the text is the trace of the bodies' run, and this is the run's verdict
abbrev pub IsRunTrace : List Pending → List ℕ → Verdict → Type 0
IsRunTrace bodies text verdict =
    (r : Run) × IsShownRun bodies r × (text ≡ text_of_run r) × (verdict ≡ r.1)

-- how the program ends once the trace is written
abbrev pub status_by : Verdict → Shown
status_by Passed = Done
status_by verdict = Found
