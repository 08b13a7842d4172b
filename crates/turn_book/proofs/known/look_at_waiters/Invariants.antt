use Rattle.turn_book.proofs.Waiters.{AreLooked}
use Rattle.turn_book.proofs.known.look_at_waiters.Given as goal

abbrev pub invariant-loop-left : goal.invariant-loop-left
invariant-loop-left l =
    AreLooked l.store l.posts l.waiters l.initial.known l.left l.known l.opened

abbrev pub decreases-loop-left : goal.decreases-loop-left
decreases-loop-left l = l.left
