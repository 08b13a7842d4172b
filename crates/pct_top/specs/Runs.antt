-- Runs of a script, and their traces as they are written (this project).
use Rattle.std.specs.Prelude.{◌≡◌, ℕ, max, Bool, true, false, nat_le, if◌then◌else◌, List, []}
use Rattle.std.specs.Prelude.{length, Option, Some, None}
use Rattle.std.specs.List.{range_with_len}
use Rattle.pct_ask.specs.declared.Deal.{Deal}
use Rattle.pct_ask.specs.declared.verdict.Verdict.{Verdict}
use Rattle.pct_ask.specs.declared.verdict.Verdict.TheVariants.{Passed}
use Rattle.pct_ask.specs.TraceText.{TraceHead, trace_text}
use Rattle.script_tree.specs.ScriptText.{ScriptText}
use Rattle.trace_text.specs.declared.file.TraceFile.{TraceFile}
use Rattle.trace_text.specs.Trace.{IsTrace}
use Rattle.worker_run.specs.Run.{Run, run}
use Rattle.script_body.specs.Bodies.{bodies_of}
use Rattle.pct_top.specs.Printed.{Printed, printed_text}

-- the run of a script with a deal of its own, under an order of its threads and change points
abbrev pub run_of : ScriptText → Deal → List ℕ → List ℕ → ℕ → Option Run
run_of script deal order points limit = run deal (bodies_of script) order points limit

-- the script's threads as they are declared
abbrev pub order_as_declared : ScriptText → List ℕ
order_as_declared script = range_with_len 0 (length script.names.threads)

-- From how many steps points are drawn: those that are given, or else as many as the run in
-- declared order has, and at least one.
abbrev pub DrawsFrom : ScriptText → Deal → ℕ → Option ℕ → ℕ → Type 0
DrawsFrom script deal limit (Some steps) k = k ≡ steps
DrawsFrom script deal limit None k =
    (ended : Run) × (run_of script deal (order_as_declared script) [] limit ≡ Some ended)
    × (k ≡ max (length ended.0) 1)

-- whether the verdict is that the run has passed
abbrev pub is_passed : Verdict → Bool
is_passed Passed = true
is_passed verdict = false

-- the version of the traces of a script
abbrev pub trace_version : ScriptText → ℕ
trace_version script = if nat_le 3 script.version then 2 else 1

-- the head of the trace of a run under the order, the points and the limit
abbrev pub head_of_run : ScriptText → List ℕ → List ℕ → ℕ → TraceHead
head_of_run script order points limit =
    record { version = trace_version script; order = order; points = points; limit = limit }

-- the trace of a run, whole
abbrev pub trace_of_run : ScriptText → List ℕ → List ℕ → ℕ → Run → List ℕ
trace_of_run script order points limit ended =
    trace_text (head_of_run script order points limit) script.names ended.0 ended.1

-- The trace of a run is printed, and it is done or something is found.
abbrev pub printed_trace : ScriptText → List ℕ → List ℕ → ℕ → Run → Bool → Printed
printed_trace script order points limit ended done =
    printed_text (trace_of_run script order points limit ended) done

-- the run as a trace file tells it
abbrev pub file_of_run : ScriptText → List ℕ → List ℕ → ℕ → Run → TraceFile
file_of_run script order points limit ended = record {
  header = record { version = trace_version script; order = order; points = points; limit = limit };
  events = ended.0;
  verdict = ended.1;
}

-- The trace of a run is printed, and it is one by the grammar of trace files.
pub record TellsRun (script : ScriptText) (order points : List ℕ) (limit : ℕ) (ended : Run)
    (done : Bool) (printed : Printed) : Type 0 where
  pub is : printed ≡ printed_trace script order points limit ended done
  pub whole :
      IsTrace (trace_of_run script order points limit ended) script.names
      (file_of_run script order points limit ended)
