-- What a port keeps between its calls (this project).
use Rattle.std.specs.Prelude.{◌≡◌, ℕ, Bool, true, List, Option, Some, None}
use Rattle.atomic_table.specs.Seated.{TableId}
use Rattle.pct_ask.specs.declared.deal.Deal.{Deal}
use Rattle.pct_ask.specs.declared.verdict.Outcome.{Outcome}
use Rattle.policy_pick.specs.Plan.{Plan}
use Rattle.policy_pick.specs.declared.policy.Policy.{Ghosts}
use Rattle.turn_book.specs.Told.{IsLawful}
use Rattle.turn_lock.specs.Seen.{owes_of}
use Rattle.turn_lock.specs.Views.{view, HasSeat}
use Rattle.turn_lock.specs.declared.held.TurnLock.{TurnLock}
use Rattle.turn_lock.specs.declared.seat.Seat.{Seat}
use Rattle.turn_lock.specs.declared.view.View.{View}
use Rattle.body_kit.specs.Asking.{ServesOnly, SeatGoesOn}

-- The seat serves this thread alone. The thread owes its next post until the port was told that the
-- run is over, and how it ended then stands in what the seat has seen.
pub record IsPortSeat (v : View) (t : ℕ) (over : Option Outcome) : Type 0 where
  pub only : ServesOnly v t
  pub owes : over ≡ None → owes_of v.seen t ≡ true
  pub told : (outcome : Outcome) → over ≡ Some outcome
      → (v.seen.outcome ≡ Some outcome) × IsLawful v.seen

-- and it is one of the lock's
abbrev pub IsPort : {P : Type 0} {policy : Ghosts P} → TurnLock P → Seat P policy → ℕ
    → Option Outcome → Type 0
IsPort lock seat t over = HasSeat lock seat × IsPortSeat (view seat) t over

-- what a port is after a call, or the seat that it gives back: of the same lock, with all that it
-- had seen
pub record IsBack {P : Type 0} {policy : Ghosts P} (old new : Seat P policy) : Type 0 where
  pub of : (lock : TurnLock P) → HasSeat lock old → HasSeat lock new
  pub on : SeatGoesOn (view old) (view new)

-- What stays of a seat, whatever is asked by it: the table of its lock, what the test was made
-- with, and which threads it serves.
pub record Home : Type 0 where
  pub table : TableId
  pub deal : Deal
  pub limit : ℕ
  pub plan : Plan
  pub serves : List Bool

-- that of a seat
abbrev pub home_of : {P : Type 0} {policy : Ghosts P} → Seat P policy → Home
home_of seat = record {
  table = seat.seat.table_id;
  deal = (view seat).seen.deal;
  limit = (view seat).seen.limit;
  plan = (view seat).seen.plan;
  serves = (view seat).serves;
}
