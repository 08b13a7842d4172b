use Rattle.lock_order.proofs.Holding.{HeldSoFar}
use Rattle.lock_order.proofs.held.held_sets.Given as goal

abbrev pub invariant-loop-event : goal.invariant-loop-event
invariant-loop-event l = HeldSoFar l.events l.event-index l.sets.items l.now
