-- Each moment is needed so far, or is left out.
use Rattle.std.proofs.Common.{List, subst, arith}
use Rattle.rank_now.specs.declared.moment.Moment.{Moment}
use Rattle.kit_directives.specs.Finding.{HasOther}
use Rattle.kit_directives.proofs.Rounds.{one-more, led-out}
use Rattle.kit_directives.proofs.reducing.leave_out.Goals as goal

pub returns-in-Some-clause-leaves : goal.returns-in-Some-clause-leaves
returns-in-Some-clause-leaves g c =
    let trial = c.args.trial.now in
    led-out trial.deal.now trial.order.now trial.limit c.args.verdict.now c.args.moments.now
    c.as_slice.result.now c.in_ok-rest.rest c.loop-place.place c.in_ok-led.led c.in-Some.steps
    c.as_slice.ensures c.in_ok-rest.ensures c.loop-place-test.true c.in-Some.is
    c.in_ok-led.ensures.leads

pub loop-place-preserved : goal.loop-place-preserved
loop-place-preserved g c =
    let trial = c.args.trial.now in
    let deal = trial.deal.now in
    let order = trial.order.now in
    let verdict = c.args.verdict.now in
    let H : List Moment → Type 0 = λ ms. HasOther deal order trial.limit verdict ms in
    one-more deal order trial.limit verdict c.args.moments.now c.in_ok-rest.rest c.loop-place.place
    c.in_ok-rest.ensures c.loop-place.invariant
    (subst H c.as_slice.ensures (c.in_ok-led.ensures.other c.in_default.is))

pub returns-clause-leaves : goal.returns-clause-leaves
returns-clause-leaves g c =
    λ place within. c.loop-place.invariant place (omega (arith, within, c.loop-place-test.false))
