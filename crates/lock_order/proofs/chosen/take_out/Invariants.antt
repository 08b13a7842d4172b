use Rattle.lock_order.proofs.Orders.{TakingOut}
use Rattle.lock_order.proofs.chosen.take_out.Given as goal

abbrev pub invariant-loop-mutex : goal.invariant-loop-mutex
invariant-loop-mutex l = TakingOut l.mutexes l.nested l.out.items l.remaining

abbrev pub decreases-loop-mutex : goal.decreases-loop-mutex
decreases-loop-mutex l = l.remaining.bits
