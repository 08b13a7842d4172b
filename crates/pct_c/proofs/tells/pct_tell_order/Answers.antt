use Rattle.std.proofs.Common.{length, sym, ◌∙◌}
use Rattle.c_tells.specs.Orders.{IsOrderTold}
use Rattle.pct_c.proofs.BufferLaws.{fills, fillable}
use Rattle.pct_c.proofs.tells.pct_tell_order.Goals as goal

pub fill-requires : goal.fill-requires
fill-requires c =
    let a = c.args in
    fillable (IsOrderTold a.threads a.low a.place (length a.order.now)) c.order_told-told.result
    (length a.order.now) c.order_told-told.ensures (λ list is. is.long ∙ sym is.whole)

pub returns : goal.returns
returns c =
    let a = c.args in
    fills (IsOrderTold a.threads a.low a.place (length a.order.now)) c.order_told-told.result
    c.fill.result a.order.now c.fill.new.buffer c.order_told-told.ensures c.fill.ensures
