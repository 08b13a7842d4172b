use Rattle.std.proofs.Common.{arith}
use Rattle.rank_now.proofs.Orders.{first-values-are}
use Rattle.rank_now.proofs.ranks.first_values.Goals as goal

pub returns : goal.returns
returns c =
    first-values-are c.args.order.now c.loop-place.values.items c.args.count c.requires.order
    c.loop-place.invariant.0 (λ place within.
    c.loop-place.invariant.1 place (omega (arith, c.loop-place-test.false)))
