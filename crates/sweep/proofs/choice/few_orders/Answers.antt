-- Where some first threads have too many orders, all have.
use Rattle.std.proofs.Common.{◌+◌, ◌*◌, ap, arith}
use Rattle.choices.specs.Orders.{factorial}
use Rattle.choices.proofs.laws.Factorials.{more-orders, fewer-orders}
use Rattle.sweep.proofs.Places.{too-many}
use Rattle.sweep.proofs.choice.few_orders.Goals as goal

pub returns-in_err-count : goal.returns-in_err-count
returns-in_err-count c =
    let fewer = c.loop-fewer.fewer in
    too-many (factorial c.args.threads) c.from_residual.result c.from_residual.ensures (omega (
      arith,
      c.in_err-count.ensures,
      ap (λ n. n * (fewer + 1)) c.loop-fewer.invariant.is,
      more-orders fewer,
      fewer-orders (fewer + 1) c.args.threads (omega (arith, c.loop-fewer-test.true)),
    ))
