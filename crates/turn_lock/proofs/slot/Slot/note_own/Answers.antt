use Rattle.std.proofs.Common.{◌<◌, List, ℕ, Option, Some, set, sym, subst}
use Rattle.turn_lock.specs.Slots.{Slot, NotesBelow}
use Rattle.turn_lock.proofs.Boards.{notes-set}
use Rattle.turn_lock.proofs.slot.Slot.note_own.Goals as goal

pub returns-then-wanted-clause-notes : goal.returns-then-wanted-clause-notes
returns-then-wanted-clause-notes g c =
    let s = c.self.inside in
    let t = c.args.thread in
    let is = sym c.self.view_is in
    let below = subst (λ (x : Slot). t < x.book.deal.threads) is c.requires.thread in
    let notes = subst (λ (x : Slot). NotesBelow x.book.deal.threads x.board) is c.requires.notes in
    let noted = notes-set s.book.deal.threads t t s.board below notes in
    let Noted : List (Option ℕ) → Type 0 = NotesBelow c.args.self.now.book.deal.threads in
    let Set : Slot → Type 0 = λ x. NotesBelow x.book.deal.threads (set s.board t (Some t)) in
    subst Noted (sym c.note.ensures) (subst Set c.self.view_is noted)
