use Rattle.std.proofs.Common.{ℕ, List, Result, Ok, Err, sym, subst}
use Rattle.std.specs.Prelude.{IfOk}
use Rattle.pct_ask.specs.declared.Deal.{Deal}
use Rattle.rank_now.specs.Order.{IsOrder}
use Rattle.rank_now.proofs.laws.KnownOrders.{known_order}
use Rattle.script_tree.specs.ScriptText.{ScriptText}
use Rattle.script_tree.specs.ScriptSeen.{plain_script}
use Rattle.script_body.specs.Bodies.{bodies_of}
use Rattle.directive.specs.declared.directive.Directive.{Directive}
use Rattle.directive_run.specs.Exposing.{Exposes}
use Rattle.directive_run.specs.declared.answers.Exposed.{Exposed}
use Rattle.pct_top.specs.declared.command_output.CommandOutput.{CommandOutput}
use Rattle.pct_top.specs.CommandOutput.{printed_of}
use Rattle.pct_top.specs.commands.Expose.{TellsExposed, PrintsExposed}
use Rattle.pct_top.proofs.commands.expose.ExposeJob.exposed_by.Goals as goal

pub expose-requires-clause-order : goal.expose-requires-clause-order
expose-requires-clause-order g c κs within =
    subst IsOrder (sym c.as_slice.ensures) (known_order c.args.plan.order c.args.plan.is_order)

pub told_exposed-requires-clause-exposed : goal.told_exposed-requires-clause-exposed
told_exposed-requires-clause-exposed g c =
    let job = c.args.self.now in
    let test = c.args.test.now in
    let script = plain_script test.script in
    let O : List ℕ → Type 0 = λ order. Exposes test.deal (bodies_of script) order
    c.args.directive.now.events job.steps c.args.plan.limit c.in_ok-exposed.exposed in
    let L : ℕ → Type 0 = λ limit. Exposes test.deal (bodies_of script) c.as_slice.result.now
    c.args.directive.now.events job.steps limit c.in_ok-exposed.exposed in
    subst O c.as_slice.ensures
    (subst L c.steps.ensures.number (c.in_ok-exposed.ensures script test.is_ready))

told : {E : Type 0} (script : ScriptText) (deal : Deal) (order : List ℕ) (steps limit : ℕ)
    (directive : Directive) (exposed : Exposed) (r : Result CommandOutput E)
    → Exposes deal (bodies_of script) order directive.events steps limit exposed
    → IfOk r (λ o. TellsExposed script deal order limit directive.verdict exposed (printed_of o))
    → IfOk r (λ o. PrintsExposed script deal order steps limit directive (printed_of o))
told script deal order steps limit directive exposed (Ok o) is h = (exposed, is, h)
told script deal order steps limit directive exposed (Err e) is h = tt

pub returns : goal.returns
returns g c =
    let job = c.args.self.now in
    let test = c.args.test.now in
    let script = plain_script test.script in
    let exposed = c.in_ok-exposed.exposed in
    let O : List ℕ → Type 0 = λ order. Exposes test.deal (bodies_of script) order
    c.args.directive.now.events job.steps c.args.plan.limit exposed in
    let L : ℕ → Type 0 = λ limit. Exposes test.deal (bodies_of script) c.as_slice.result.now
    c.args.directive.now.events job.steps limit exposed in
    told script test.deal c.args.plan.order job.steps c.args.plan.limit c.args.directive.now exposed
    c.told_exposed.result
    (subst O c.as_slice.ensures
    (subst L c.steps.ensures.number (c.in_ok-exposed.ensures script test.is_ready)))
    c.told_exposed.ensures
