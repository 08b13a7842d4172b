use Rattle.std.proofs.Common.{length, ap, arith}
use Rattle.pct_ask.specs.declared.names.NameKind.TheVariants.{Thread}
use Rattle.pct_top.proofs.order.order_of.Goals as goal

pub is_order-whole-requires : goal.is_order-whole-requires
is_order-whole-requires c =
    omega (arith, c.count.ensures.lawful.few Thread, ap length c.as_slice.ensures)
