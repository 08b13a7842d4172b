-- The order's block tells the order, and the rest its points.
use Rattle.sweep.proofs.Places.{few-threads}
use Rattle.sweep.proofs.Places.{choice-there}
use Rattle.sweep.proofs.choice.choice_at.Goals as goal

pub order_at-requires-clause-few : goal.order_at-requires-clause-few
order_at-requires-clause-few c =
    few-threads c.args.threads c.args.steps c.args.points c.requires.some c.requires.few

pub returns : goal.returns
returns c =
    choice-there c.args.threads c.args.steps c.args.points c.args.place c.requires.some
    c.requires.place c.list_count-lists.result c.in_ok-order.order c.in_ok-points.points
    c.list_count-lists.ensures c.in_ok-order.ensures c.in_ok-points.ensures
