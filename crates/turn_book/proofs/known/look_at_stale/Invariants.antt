use Rattle.std.specs.Prelude.{◌≡◌, length}
use Rattle.turn_book.specs.Board.{AreKnownChances}
use Rattle.turn_book.proofs.known.look_at_stale.Given as goal

abbrev pub invariant-loop-left : goal.invariant-loop-left
invariant-loop-left l =
    (length l.known ≡ length l.initial.known) × AreKnownChances l.store l.posts l.left l.known

abbrev pub decreases-loop-left : goal.decreases-loop-left
decreases-loop-left l = l.left
