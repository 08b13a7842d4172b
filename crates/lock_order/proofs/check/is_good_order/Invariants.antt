use Rattle.lock_order.proofs.Orders.{OrderSoFar}
use Rattle.lock_order.proofs.check.is_good_order.Given as goal

abbrev pub invariant-loop-mutex : goal.invariant-loop-mutex
invariant-loop-mutex l = OrderSoFar l.fn.deal.mutexes l.fn.events l.order l.mutex-index l.left
