use Rattle.std.proofs.Common.{◌≡◌, List, sym, subst, ◌∙◌}
use Rattle.pct_ask.specs.declared.event.Event.{Event}
use Rattle.pct_ask.specs.declared.verdict.Outcome.TheVariants.{Verdict as Ends}
use Rattle.pct_ask.specs.declared.verdict.Verdict.{Verdict}
use Rattle.script_tree.specs.ScriptSeen.{plain_script}
use Rattle.script_body.specs.Bodies.{bodies_of}
use Rattle.directive_run.specs.Exposing.{Exposes}
use Rattle.directive_run.specs.declared.answers.Exposed.{Exposed}
use Rattle.trace_text.specs.Lawful.{IsKnownRun}
use Rattle.pct_top.specs.Runs.{trace_version}
use Rattle.pct_top.proofs.KnownDirected.{known-exposed, exposed-points}
use Rattle.pct_top.proofs.commands.expose.ExposeJob.told_exposed.Goals as goal

pub told_trace-requires-clause-known : goal.told_trace-requires-clause-known
told_trace-requires-clause-known c =
    let job = c.args.self.now in
    let test = c.args.test.now in
    let ready = test.is_ready in
    let script = plain_script test.script in
    let plan = c.args.plan in
    let events = c.args.directive.now.events in
    let X : Exposed → Type 0 = λ exposed.
    Exposes test.deal (bodies_of script) plan.order events job.steps plan.limit exposed in
    let is = subst X c.in-Points.is c.requires.exposed in
    let known = known-exposed script test.deal ready.sound ready.is_deal plan.order events
    job.steps plan.limit c.in-Points.points c.in-Points.played is (sym c.requires.whole) in
    let run = c.into_whole-run.result in
    let ends : Ends is.verdict ≡ Ends run.verdict =
    sym is.ends ∙ c.into_whole-run.ensures.verdict in
    let verdict : is.verdict ≡ run.verdict = cc in
    let Known : List Event → Verdict → Type 0 =
    IsKnownRun script.names (trace_version script) plan.limit in
    let E : List Event → Type 0 = λ made. Known made is.verdict in
    let V : Verdict → Type 0 = λ v. Known run.events v in
    subst V verdict (subst E (sym c.into_whole-run.ensures.events) known)

pub invariant_of-plan-clause-points_fit : goal.invariant_of-plan-clause-points_fit
invariant_of-plan-clause-points_fit c =
    let job = c.args.self.now in
    let test = c.args.test.now in
    let ready = test.is_ready in
    let script = plain_script test.script in
    let plan = c.args.plan in
    let directive = c.args.directive.now in
    let X : Exposed → Type 0 = λ exposed.
    Exposes test.deal (bodies_of script) plan.order directive.events job.steps plan.limit
    exposed in
    let is = subst X c.in-Points.is c.requires.exposed in
    exposed-points script test.deal ready.sound ready.is_deal plan.order directive.events job.steps
    plan.limit c.in-Points.points c.in-Points.played is directive.few job.steps_fit
