use Rattle.lock_order.proofs.Cycles.{CycleSoFar}
use Rattle.lock_order.proofs.check.is_good_cycle.Given as goal

abbrev pub invariant-loop-nesting : goal.invariant-loop-nesting
invariant-loop-nesting l = CycleSoFar l.events l.cycle l.nesting-index l.taken
