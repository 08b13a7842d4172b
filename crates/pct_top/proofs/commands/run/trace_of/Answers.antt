use Rattle.std.proofs.Common.{◌≡◌, ℕ, List, Some, Result, Ok, Err, subst}
use Rattle.std.specs.Prelude.{Bool, IfOk}
use Rattle.pct_ask.specs.declared.Deal.{Deal}
use Rattle.script_tree.specs.ScriptText.{ScriptText}
use Rattle.script_tree.specs.ScriptSeen.{plain_script}
use Rattle.worker_run.specs.Run.{Run}
use Rattle.pct_top.specs.declared.command_output.CommandOutput.{CommandOutput}
use Rattle.pct_top.specs.Runs.{run_of, is_passed, TellsRun}
use Rattle.pct_top.specs.CommandOutput.{printed_of}
use Rattle.pct_top.specs.commands.Run.{PrintsTrace}
use Rattle.pct_top.proofs.commands.run.trace_of.Goals as goal

is_told : {E : Type 0} (script : ScriptText) (deal : Deal) (order points : List ℕ) (limit : ℕ)
    (ended : Run) (r : Result CommandOutput E) → run_of script deal order points limit ≡ Some ended
    → IfOk r (λ o. TellsRun script order points limit ended (is_passed ended.1) (printed_of o))
    → IfOk r (λ o. PrintsTrace script deal order points limit (printed_of o))
is_told script deal order points limit ended (Ok o) run h = (ended, run, h)
is_told script deal order points limit ended (Err e) run h = tt

pub returns : goal.returns
returns g c =
    let test = c.args.test.now in
    let script = plain_script test.script in
    let ended : Run = (c.in_ok-run.run'.events, c.in_ok-run.run'.verdict) in
    let T : Bool → Type 0 = λ done. IfOk c.told_trace.result (λ o.
    TellsRun script c.args.plan.order c.args.plan.points c.args.plan.limit ended done
    (printed_of o)) in
    is_told script test.deal c.args.plan.order c.args.plan.points c.args.plan.limit ended
    c.told_trace.result c.in_ok-run.ensures.run
    (subst T c.is_passed-done.ensures c.told_trace.ensures)
