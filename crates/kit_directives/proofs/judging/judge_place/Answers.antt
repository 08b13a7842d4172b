-- The order is one of all threads, of which there are few.
use Rattle.std.proofs.Common.{length, ap, arith}
use Rattle.choices.specs.Orders.{low_orders}
use Rattle.choices.proofs.laws.OrderLists.{IsLowOrder, low-orders-all}
use Rattle.choices.proofs.laws.ListedOnce.{listed-all}
use Rattle.kit_directives.proofs.judging.judge_place.Goals as goal

pub run_directed-requires-clause-few_names : goal.run_directed-requires-clause-few_names
run_directed-requires-clause-few_names g c κs within =
    let threads = c.args.deal.now.threads in
    let low = c.args.directive.now.low in
    let is = listed-all (IsLowOrder threads low) (low_orders threads low) c.args.place
    c.in_ok-order.order (low-orders-all threads low c.requires.low) c.in_ok-order.ensures in
    omega (arith, is.whole, ap length c.as_slice.ensures, c.requires.few_threads)
