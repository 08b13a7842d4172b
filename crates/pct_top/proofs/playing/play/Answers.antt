use Rattle.std.proofs.Common.{List, ℕ, Some, IfOk, length, refl, subst, arith, ◌≡◌, ◌≤◌}
use Rattle.std.proofs.lemmas.Result.{IfOk-weaker}
use Rattle.pct_ask.specs.declared.verdict.Outcome.TheVariants.{Verdict as Ends}
use Rattle.script_tree.specs.ScriptSeen.{plain_script}
use Rattle.script_body.specs.Bodies.{bodies_of}
use Rattle.policy_pick.specs.Plan.{ByPoints}
use Rattle.worker_run.specs.declared.by_order.WholeRun.{WholeRun}
use Rattle.worker_run.specs.Played.{IsPlayed}
use Rattle.trace_text.specs.Lawful.{IsKnownRun}
use Rattle.pct_top.specs.Runs.{run_of, trace_version}
use Rattle.pct_top.proofs.KnownRuns.{known-run}
use Rattle.pct_top.proofs.playing.play.Goals as goal

pub returns-clause-run : goal.returns-clause-run
returns-clause-run g c =
    let test = c.args.test.now in
    let plan = c.args.plan.now in
    let script = plain_script test.script in
    let O : List ℕ → Type 0 = λ order. IfOk c.run_by_points.result (λ (run : WholeRun).
    run_of script test.deal order c.as_slice-points.result.now plan.limit
    ≡ Some (run.events, run.verdict)) in
    let P : List ℕ → Type 0 = λ points. IfOk c.run_by_points.result (λ (run : WholeRun).
    run_of script test.deal plan.order points plan.limit ≡ Some (run.events, run.verdict)) in
    subst P c.as_slice-points.ensures (subst O c.as_slice-order.ensures
    (c.run_by_points.ensures.run script test.is_ready))

pub returns-clause-known : goal.returns-clause-known
returns-clause-known g c =
    let test = c.args.test.now in
    let limit = c.args.plan.now.limit in
    let script = plain_script test.script in
    let ready = test.is_ready in
    let plan = ByPoints c.as_slice-order.result.now c.as_slice-points.result.now in
    IfOk-weaker c.run_by_points.result
    (λ (run : WholeRun).
    IsPlayed plan test.deal (bodies_of script) limit run.events (Ends run.verdict))
    (λ (run : WholeRun).
    IsKnownRun script.names (trace_version script) limit run.events run.verdict)
    (λ run is. known-run script test.deal ready.sound ready.is_deal plan limit run.events
    run.verdict (Ends run.verdict) refl is)
    (c.run_by_points.ensures.played script ready)

pub returns-clause-short : goal.returns-clause-short
returns-clause-short g c =
    IfOk-weaker c.run_by_points.result
    (λ (run : WholeRun). length run.events ≤ c.args.plan.now.limit)
    (λ (run : WholeRun). length run.events ≤ 100000)
    (λ run few. omega (arith, few, (c.steps-most.ensures.fits).1, c.steps-most.ensures.number))
    c.run_by_points.ensures.few
