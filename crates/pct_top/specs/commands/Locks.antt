-- `locks`: in which order a script's run took its mutexes (this project).
use Rattle.std.specs.Prelude.{◌≡◌, ℕ, Bool, true, false, List, [], ◌∷◌, ◌++◌, length, map, Some}
use Rattle.std.specs.Prelude.{codes, decimal}
use Rattle.std.specs.List.{flat_map}
use Rattle.pct_ask.specs.NameLists.{NameLists}
use Rattle.pct_ask.specs.VerdictText.{thread_name}
use Rattle.pct_ask.specs.TraceText.{name_at, line_text}
use Rattle.pct_ask.specs.declared.Deal.{Deal}
use Rattle.script_tree.specs.ScriptText.{ScriptText}
use Rattle.worker_run.specs.Run.{Run}
use Rattle.lock_order.specs.declared.nesting.Nesting.{Nesting}
use Rattle.lock_order.specs.declared.report.LockReport.{LockReport}
use Rattle.lock_order.specs.declared.report.LockReport.TheVariants.{Order, Cycle}
use Rattle.lock_order.specs.Chosen.{IsChosen}
use Rattle.pct_top.specs.Printed.{Printed, printed_text}
use Rattle.pct_top.specs.Runs.{run_of}

-- the step and its thread, and the mutexes that it held and took
abbrev pub nesting_words : NameLists → Nesting → List (List ℕ)
nesting_words names nesting =
    codes "nest" ∷ decimal nesting.step ∷ thread_name names nesting.thread
    ∷ name_at names.mutexes nesting.held ∷ name_at names.mutexes nesting.taken ∷ []

-- the mutexes in a good order, or a line for each nesting of a cycle and how many there are
abbrev pub lock_lines : NameLists → LockReport → List (List (List ℕ))
lock_lines names (Order order) = (codes "order" ∷ map (name_at names.mutexes) order) ∷ []
lock_lines names (Cycle cycle) =
    map (nesting_words names) cycle ++ (codes "cycle" ∷ decimal (length cycle) ∷ []) ∷ []

-- the lines of the report, each with its LF
abbrev pub lock_text : NameLists → LockReport → List ℕ
lock_text names report = flat_map line_text (lock_lines names report)

-- whether the report is a good order, and no cycle
abbrev pub is_order : LockReport → Bool
is_order (Order order) = true
is_order (Cycle cycle) = false

-- This report is printed. It is done where there is an order.
abbrev pub printed_locks : NameLists → LockReport → Printed
printed_locks names report = printed_text (lock_text names report) (is_order report)

-- the report on the run under the order and the points
abbrev pub PrintsLocks : ScriptText → Deal → List ℕ → List ℕ → ℕ → Printed → Type 0
PrintsLocks script deal order points limit printed =
    (ended : Run) × (run_of script deal order points limit ≡ Some ended)
    × ((report : LockReport) × IsChosen deal.mutexes ended.0 report
    × (printed ≡ printed_locks script.names report))
