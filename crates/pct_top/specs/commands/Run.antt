-- `run`: the trace of a script's run (this project).
use Rattle.std.specs.Prelude.{◌≡◌, ℕ, List, Some}
use Rattle.pct_ask.specs.declared.Deal.{Deal}
use Rattle.script_tree.specs.ScriptText.{ScriptText}
use Rattle.worker_run.specs.Run.{Run}
use Rattle.pct_top.specs.Printed.{Printed}
use Rattle.pct_top.specs.Runs.{run_of, is_passed, TellsRun}

-- the trace of the run under the order and the points, which is done where it passes
abbrev pub PrintsTrace : ScriptText → Deal → List ℕ → List ℕ → ℕ → Printed → Type 0
PrintsTrace script deal order points limit printed =
    (ended : Run) × (run_of script deal order points limit ≡ Some ended)
    × TellsRun script order points limit ended (is_passed ended.1) printed
