-- The policy's run is that of the choice at the place.
use Rattle.std.proofs.Common.{length, subst, ap, sym, arith}
use Rattle.rank_now.specs.Order.{IsOrder}
use Rattle.sweep.proofs.Places.{listed-choice}
use Rattle.sweep.proofs.Runs.{next-planned}
use Rattle.sweep.proofs.batches.NextRunsBatch.policy.Goals as goal

pub invariant_of-of_priorities-clause-is_order :
    goal.invariant_of-of_priorities-clause-is_order
invariant_of-of_priorities-clause-is_order c =
    let sweep = c.args.self.now.sweep.now in
    let listed = listed-choice sweep.script.deal.now.threads sweep.steps sweep.points
    c.index-at.result.now c.in_ok-choice.choice c.in_ok-choice.ensures in
    ∣ subst IsOrder (sym c.as_slice-order.ensures) listed.0.is_order ∣₁

pub invariant_of-of_priorities-clause-few_points :
    goal.invariant_of-of_priorities-clause-few_points
invariant_of-of_priorities-clause-few_points c =
    let sweep = c.args.self.now.sweep.now in
    let listed = listed-choice sweep.script.deal.now.threads sweep.steps sweep.points
    c.index-at.result.now c.in_ok-choice.choice c.in_ok-choice.ensures in
    omega (arith, ap length c.as_slice-points.ensures, listed.1.long, sweep.few_points)

pub of_priorities-requires : goal.of_priorities-requires
of_priorities-requires c =
    let sweep = c.args.self.now.sweep.now in
    let listed = listed-choice sweep.script.deal.now.threads sweep.steps sweep.points
    c.index-at.result.now c.in_ok-choice.choice c.in_ok-choice.ensures in
    let few = sweep.script.deal.now.few_threads in
    record { few_threads = omega (arith, ap length c.as_slice-order.ensures, listed.0.whole, few) }

pub returns-clause-plan : goal.returns-clause-plan
returns-clause-plan c =
    let next = c.args.self.now in
    let sweep = next.sweep.now in
    let listed = listed-choice sweep.script.deal.now.threads sweep.steps sweep.points
    c.index-at.result.now c.in_ok-choice.choice c.in_ok-choice.ensures in
    next-planned next c.args.place c.index-at.result.now c.in_ok-choice.choice
    c.of_priorities.result
    _ _ c.requires.place c.index-at.ensures c.in_ok-choice.ensures
    c.as_slice-order.ensures c.as_slice-points.ensures
    (omega (arith, ap length c.as_slice-order.ensures, listed.0.whole)) c.of_priorities.ensures.plan
