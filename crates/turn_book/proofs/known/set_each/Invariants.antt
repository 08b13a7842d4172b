use Rattle.turn_book.proofs.Lockers.{AreSet}
use Rattle.turn_book.proofs.known.set_each.Given as goal

abbrev pub invariant-loop-left : goal.invariant-loop-left
invariant-loop-left l = AreSet l.threads l.chance l.initial.known l.left l.known

abbrev pub decreases-loop-left : goal.decreases-loop-left
decreases-loop-left l = l.left
