-- The policy's run is the directed run of the order at the place.
use Rattle.std.proofs.Common.{length, subst, sym, ap, ◌∙◌, arith}
use Rattle.rank_now.specs.Order.{IsOrder}
use Rattle.directive_run.proofs.Certificates.{low-at}
use Rattle.directive_run.proofs.OrderRuns.{order-planned}
use Rattle.directive_run.proofs.batches.ClaimBatch.policy.Goals as goal

pub invariant_of-of_priorities-clause-is_order :
    goal.invariant_of-of_priorities-clause-is_order
invariant_of-of_priorities-clause-is_order c =
    let claim = c.args.self.now in
    let low =
    low-at claim.script.deal.now.threads claim.directive.now.low c.args.place c.in_ok-order.order
    claim.low c.in_ok-order.ensures in
    ∣ subst IsOrder (sym c.as_slice-order.ensures) low.is_order ∣₁

pub of_priorities-requires : goal.of_priorities-requires
of_priorities-requires c =
    let claim = c.args.self.now in
    let low =
    low-at claim.script.deal.now.threads claim.directive.now.low c.args.place c.in_ok-order.order
    claim.low c.in_ok-order.ensures in
    let few = claim.script.deal.now.few_threads in
    record { few_threads = omega (arith, ap length c.as_slice-order.ensures, low.whole, few) }

pub returns-clause-plan : goal.returns-clause-plan
returns-clause-plan c =
    let claim = c.args.self.now in
    let low =
    low-at claim.script.deal.now.threads claim.directive.now.low c.args.place c.in_ok-order.order
    claim.low c.in_ok-order.ensures in
    order-planned claim c.args.place c.of_priorities.result c.in_ok-order.order
    c.as_slice-order.result.now c.as_slice-moments.result.now c.in_ok-order.ensures
    c.as_slice-order.ensures c.as_slice-moments.ensures
    (ap length c.as_slice-order.ensures ∙ low.whole) c.of_priorities.ensures.plan
