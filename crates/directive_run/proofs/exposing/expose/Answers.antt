-- The run is the directed one, and so the run of its moments' points.
use Rattle.std.proofs.Common.{◌≡◌, ℕ, Some, ap, subst, ◌∙◌, arith}
use Rattle.script_body.specs.Bodies.{bodies_of}
use Rattle.turn_book.specs.Posts.{schedule_of}
use Rattle.worker_run.specs.Run.{directed_run}
use Rattle.choices.specs.Points.{points_of}
use Rattle.directive_run.proofs.Exposure.{too-long, exposed}
use Rattle.directive_run.proofs.exposing.expose.Goals as goal

pub returns-then-many-steps : goal.returns-then-many-steps
returns-then-many-steps g c = λ script of.
    let whole = c.in_ok-whole.whole in
    let L : ℕ → Type 0 = λ limit. directed_run c.args.deal.now (bodies_of script) c.args.order.now
    c.as_slice-moments.result.now limit ≡ Some (whole.events, whole.verdict) in
    too-long c.args.deal.now (bodies_of script) c.args.order.now c.as_slice-moments.result.now
    c.args.directive.now.events c.args.steps c.args.limit c.len-many.result
    c.in_ok-whole.whole.events c.in_ok-whole.whole.verdict c.as_slice-moments.ensures
    (subst L c.new-limit.ensures (c.in_ok-whole.ensures.directed script of)) c.len-many.ensures
    c.if-many-steps.true

pub returns : goal.returns
returns g c = λ script of.
    let whole = c.in_ok-whole.whole in
    let L : ℕ → Type 0 = λ limit. directed_run c.args.deal.now (bodies_of script) c.args.order.now
    c.as_slice-moments.result.now limit ≡ Some (whole.events, whole.verdict) in
    exposed c.args.deal.now (bodies_of script) c.args.order.now c.as_slice-moments.result.now
    c.args.directive.now.events c.args.steps c.args.limit c.in_ok-whole.whole.events
    c.in_ok-whole.whole.verdict c.in_ok-points.points c.into.result c.requires.some_steps
    c.as_slice-moments.ensures
    (subst L c.new-limit.ensures (c.in_ok-whole.ensures.directed script of))
    (omega (arith, c.len-many.ensures, c.if-many-steps.false))
    (c.in_ok-points.ensures ∙ ap (λ es.
    points_of (schedule_of es) c.args.steps c.as_slice-moments.result.now) c.as_slice.ensures)
    c.into.ensures.0 c.into.ensures.1
