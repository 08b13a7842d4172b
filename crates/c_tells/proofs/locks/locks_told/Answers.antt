use Rattle.std.proofs.lemmas.Result.{err_from_is_err_and}
use Rattle.c_values.proofs.laws.Refusals.{refusal}
use Rattle.c_tells.specs.Locks.{AreLocksOf}
use Rattle.c_tells.specs.Runs.{SayRun}
use Rattle.c_tells.specs.declared.run.Run.{Run}
use Rattle.c_tells.proofs.locks.locks_told.Goals as goal

pub returns-in_err-run : goal.returns-in_err-run
returns-in_err-run c =
    let a = c.args in
    let p = err_from_is_err_and c.from_residual.result c.from_residual.ensures.1 in
    refusal
    (λ (run : Run). SayRun a.counts.now a.vars.now a.sems.now a.barriers.now a.steps.now run.deal
    run.events)
    (AreLocksOf a.counts.now a.vars.now a.sems.now a.barriers.now a.steps.now)
    c.in_err-run.field-0.0 p.0 c.from_residual.result p.1 p.2 c.in_err-run.ensures
    (λ told is. let run : Run = record { deal = is.deal; events = is.events } in (run, is.run))

pub returns : goal.returns
returns c = record {
  deal = c.in_ok-run.run'.deal;
  events = c.in_ok-run.run'.events;
  run = c.in_ok-run.ensures;
  report = c.in_ok-report.report;
  chosen = rw c.as_slice.ensures at c.in_ok-report.ensures.chosen;
  told_is = c.in_ok-told_of.ensures;
}
