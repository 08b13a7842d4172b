-- Each moment is needed so far, or is left out.
use Rattle.std.proofs.Common.{length, arith, ap, sym, ◌∙◌}
use Rattle.std.proofs.lemmas.List.Edits.{length-remove}
use Rattle.script_code.specs.Listing.{listing}
use Rattle.worker_run.specs.Run.{directed_run}
use Rattle.script_run.specs.Ready.{bodies_of_code}
use Rattle.directive_find.proofs.Rounds.{one-more, left-out}
use Rattle.directive_find.proofs.reducing.leave_out.Goals as goal

pub returns-then-is-clause-leaves : goal.returns-then-is-clause-leaves
returns-then-is-clause-leaves g c =
    let ready = c.args.ready.now in
    let bodies = bodies_of_code (listing ready.code.now) in
    left-out ready.deal.now bodies c.args.priorities.now.order.now c.args.limit c.args.verdict.now
    c.args.priorities.now.moments.now c.in_ok-rest.rest c.loop-place.place
    c.in_ok-whole.whole.events
    c.in_ok-whole.whole.verdict
    c.in_ok-rest.ensures (ap (λ es. directed_run ready.deal.now bodies
    c.args.priorities.now.order.now
    es c.args.limit) (sym c.as_slice.ensures)
    ∙ c.in_ok-whole.ensures.code)
    c.loop-place.invariant c.count_steps-steps.result
    (omega (
      arith,
      ap length c.in_ok-rest.ensures,
      length-remove c.args.priorities.now.moments.now c.loop-place.place c.loop-place-test.true,
      c.args.priorities.now.few_moments,
    )) c.loop-place-test.true
    (c.is.ensures.0 c.if-is.true)
    (c.count_steps-steps.ensures ∙ ap length c.as_slice-then-is.ensures)

pub loop-place-preserved : goal.loop-place-preserved
loop-place-preserved g c =
    let ready = c.args.ready.now in
    let bodies = bodies_of_code (listing ready.code.now) in
    one-more ready.deal.now bodies c.args.priorities.now.order.now c.args.limit c.args.verdict.now
    c.args.priorities.now.moments.now c.in_ok-rest.rest c.loop-place.place
    c.in_ok-whole.whole.events
    c.in_ok-whole.whole.verdict
    c.in_ok-rest.ensures (ap (λ es. directed_run ready.deal.now bodies
    c.args.priorities.now.order.now
    es c.args.limit) (sym c.as_slice.ensures)
    ∙ c.in_ok-whole.ensures.code)
    c.loop-place.invariant
    (λ same. let told = c.is.ensures.1 same in let other = c.if-is.false in cc)

pub returns-clause-leaves : goal.returns-clause-leaves
returns-clause-leaves g c =
    λ place within. c.loop-place.invariant place
    (omega (arith, within, c.loop-place-test.false))
