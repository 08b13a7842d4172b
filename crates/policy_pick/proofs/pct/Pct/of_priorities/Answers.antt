use Rattle.rank_now.proofs.laws.KnownOrders.{known_order}
use Rattle.policy_pick.proofs.pct.Pct.of_priorities.Goals as goal

pub of_order-requires-clause-order : goal.of_order-requires-clause-order
of_order-requires-clause-order c =
    known_order c.args.priorities.now.order.now c.args.priorities.now.is_order
