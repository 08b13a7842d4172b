use Rattle.std.proofs.Common.{◌≡◌}
use Rattle.turn_lock.specs.Slots.{NotesBelow}
use Rattle.turn_lock.proofs.slot.Slot.note.Given as goal

abbrev pub invariant-loop-thread : goal.invariant-loop-thread
invariant-loop-thread g l =
    (l.self-inside.book ≡ l.initial.self-inside.book)
    × NotesBelow l.initial.self-inside.book.deal.threads l.self-inside.board
