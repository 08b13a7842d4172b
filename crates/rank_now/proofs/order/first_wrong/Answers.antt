use Rattle.std.proofs.Common.{arith}
use Rattle.rank_now.proofs.Orders.{is-order}
use Rattle.rank_now.proofs.order.first_wrong.Goals as goal

pub returns-clause-order : goal.returns-clause-order
returns-clause-order c =
    λ none. is-order c.args.order.now
    (λ place within.
    c.loop-place.invariant place (omega (arith, within, c.loop-place-test.false)))
