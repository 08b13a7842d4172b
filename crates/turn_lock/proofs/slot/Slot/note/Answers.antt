use Rattle.std.proofs.Common.{sym, refl, subst}
use Rattle.turn_lock.specs.Slots.{Slot, NotesBelow}
use Rattle.turn_lock.proofs.slot.Slot.note.Goals as goal

pub loop-thread-init : goal.loop-thread-init
loop-thread-init g c = (
  refl,
  subst (λ (s : Slot). NotesBelow s.book.deal.threads s.board) (sym c.self.view_is)
      c.requires.notes,
)
