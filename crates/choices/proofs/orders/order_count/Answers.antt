-- There are at most 12! orders, which fit.
use Rattle.std.proofs.Common.{arith}
use Rattle.choices.proofs.Bounds.{count-small}
use Rattle.choices.proofs.orders.order_count.Goals as goal

pub overflow_mul-count : goal.overflow_mul-count
overflow_mul-count c =
    let small = count-small c.args.threads c.loop-fewer.fewer c.loop-fewer.count c.requires
    c.loop-fewer-test.true c.loop-fewer.invariant in
    omega (arith, small)
