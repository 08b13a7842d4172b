use Rattle.body_kit.proofs.Refusals.{from-policy}
use Rattle.body_kit.proofs.counts.pct_of.Goals as goal

pub returns-in_err-new-clause-not_an_order : goal.returns-in_err-new-clause-not_an_order
returns-in_err-new-clause-not_an_order c =
    from-policy c.args.threads c.args.bodies c.args.order.now
    (record { bodies_fit = c.if-bodies-threads.false; order_fits = c.if-order-threads.false })
    c.in_err-new.field-0.0 c.from_residual.result c.from_residual.ensures.1
    c.in_err-new.ensures.not_an_order
