use Rattle.std.proofs.Common.{◌≡◌}
use Rattle.choices.specs.Orders.{factorial}
use Rattle.choices.proofs.orders.order_count.Given as goal

abbrev pub invariant-loop-fewer : goal.invariant-loop-fewer
invariant-loop-fewer l = l.count ≡ factorial l.fewer
