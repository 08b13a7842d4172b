-- Where the deal or the steps are refused, so is the run.
use Rattle.std.proofs.lemmas.Result.{err_from_is_err_and}
use Rattle.c_values.proofs.laws.Refusals.{refusal}
use Rattle.c_values.specs.Deals.{SaysDeal}
use Rattle.c_values.specs.Events.{AreSteps}
use Rattle.c_tells.specs.Runs.{SayRun}
use Rattle.c_tells.specs.declared.run.Run.{Run}
use Rattle.c_tells.proofs.run.run_of.Goals as goal

pub returns-in_err-deal : goal.returns-in_err-deal
returns-in_err-deal c =
    let a = c.args in
    let p = err_from_is_err_and c.from_residual.result c.from_residual.ensures.1 in
    refusal (SaysDeal a.counts.now a.vars.now a.sems.now a.barriers.now)
    (λ (run : Run). SayRun a.counts.now a.vars.now a.sems.now a.barriers.now a.steps.now run.deal
    run.events) c.in_err-deal.field-0.0 p.0 c.from_residual.result p.1 p.2 c.in_err-deal.ensures
    (λ run is. (run.deal, is.says))

pub returns-in_err-events : goal.returns-in_err-events
returns-in_err-events c =
    let a = c.args in
    let r = c.from_residual-in_err-events in
    let p = err_from_is_err_and r.result r.ensures.1 in
    refusal (AreSteps a.steps.now)
    (λ (run : Run). SayRun a.counts.now a.vars.now a.sems.now a.barriers.now a.steps.now run.deal
    run.events) c.in_err-events.field-0.0 p.0 r.result p.1 p.2 c.in_err-events.ensures
    (λ run is. (run.events, is.run))
