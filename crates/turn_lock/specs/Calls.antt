-- What ties a seat to its lock, and what calls ask of it (this project).
use Rattle.std.specs.Prelude.{◌≡◌, ◌<◌, ℕ, true, false, []}
use Rattle.atomic_table.specs.declared.shared.Seat.{Seat as TableSeat}
use Rattle.turn_book.specs.Told.{BookState, SameMaking}
use Rattle.turn_lock.specs.Seen.{owes_of}
use Rattle.turn_lock.specs.Slots.{Slot}
use Rattle.turn_lock.specs.Rule.{Serves}
use Rattle.turn_lock.specs.declared.view.View.{View}
use Rattle.turn_lock.specs.declared.held.TurnLock.{TurnLock}

-- the book that the lock was made with
abbrev pub first_book : {P : Type 0} → TurnLock P → BookState
first_book lock = lock.table.shared.key.value.book

-- the seat is one of the lock's table
abbrev pub IsTableSeatOf : {P : Type 0} → TurnLock P → TableSeat Slot View → Type 0
IsTableSeatOf lock seat =
    (seat.table_id ≡ lock.table.shared.table_id) × SameMaking (first_book lock) seat.me.0.seen

-- a seat between two calls: it holds neither the lock nor a slot
pub record Idle (seat : TableSeat Slot View) : Type 0 where
  pub live : seat.me.0.live ≡ true
  pub held : seat.me.0.held ≡ false
  pub none : seat.me.1 ≡ []

-- a step of the table's seat leaves it this table's, under its number
pub record SameSeat (old new : TableSeat Slot View) : Type 0 where
  pub table : new.table_id ≡ old.table_id
  pub id : new.id ≡ old.id

-- every thread of the deal is the seat's own
abbrev pub ServesAll : View → Type 0
ServesAll v = (t : ℕ) → t < v.seen.deal.threads → Serves v t

-- the seat serves a thread, and owes no post
pub record WaitsForTurn (v : View) : Type 0 where
  pub thread : ℕ
  pub serves : Serves v thread
  pub posted : (t : ℕ) → Serves v t → owes_of v.seen t ≡ false
