-- How contracts see a seat (this project).
use Rattle.policy_pick.specs.declared.policy.Policy.{Ghosts}
use Rattle.turn_lock.specs.declared.view.View.{View}
use Rattle.turn_lock.specs.declared.held.TurnLock.{TurnLock}
use Rattle.turn_lock.specs.declared.seat.Seat.{Seat}
use Rattle.turn_lock.specs.Calls.{IsTableSeatOf}

-- what a seat knows
abbrev pub view : {P : Type 0} {policy : Ghosts P} → Seat P policy → View
view seat = seat.seat.me.0

-- the seat is one of the lock's
abbrev pub HasSeat : {P : Type 0} {policy : Ghosts P} → TurnLock P → Seat P policy → Type 0
HasSeat lock seat = IsTableSeatOf lock seat.seat
