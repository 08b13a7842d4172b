-- What stands between the steps of one call (this project).
use Rattle.std.specs.Prelude.{◌≡◌, ◌<◌, ◌≤◌, ℕ, Bool, true, false, List, [], ◌∷◌, Option, None}
use Rattle.std.specs.Prelude.{MatchOption}
use Rattle.pct_ask.specs.declared.ask.Post.{Post}
use Rattle.turn_book.specs.Told.{IsLawful, Within}
use Rattle.turn_lock.specs.Seen.{Begins, SameOf, owes_of}
use Rattle.turn_lock.specs.Slots.{Slot, NotesBelow}
use Rattle.turn_lock.specs.Rule.{HasFlag, Serves}
use Rattle.turn_lock.specs.Plays.{SeatWithSlots}
use Rattle.turn_lock.specs.Turns.{GivenInRange, IsOwed, TurnsTo, TellsEnd}
use Rattle.turn_lock.specs.Wakes.{WakesBelow}
use Rattle.turn_lock.specs.Briefs.{brief}
use Rattle.turn_lock.specs.declared.turn.Turn.{Turn}
use Rattle.turn_lock.specs.declared.view.View.{View}
use Rattle.turn_lock.specs.declared.work.Work.{Work}

-- the seat holds the lock, and this slot, which was at first what the view tells
pub record HasInHand (m : SeatWithSlots) (slot : Slot) : Type 0 where
  pub live : m.0.live ≡ true
  pub held : m.0.held ≡ true
  pub one : m.1 ≡ (0, slot) ∷ []

-- the seat holds the lock and its slot, and may make this turn
pub record IsReady (m : SeatWithSlots) (t : ℕ) (post : Option Post) : Type 0 where
  pub hand : HasInHand m m.0.base
  pub thread : t < m.0.base.book.deal.threads
  pub lawful : IsLawful m.0.base.book
  pub notes : NotesBelow m.0.base.book.deal.threads m.0.base.board
  pub owed : IsOwed m.0.base.book t post
  pub in_range : GivenInRange m.0.base.book post

-- the same for a turn of one of these threads
pub record IsReadyForAny (m : SeatWithSlots) (threads : List Bool) (lowest : ℕ) : Type 0 where
  pub hand : HasInHand m m.0.base
  pub here : HasFlag threads lowest
  pub least : (t : ℕ) → HasFlag threads t → lowest ≤ t
  pub below : (t : ℕ) → HasFlag threads t → t < m.0.base.book.deal.threads
  pub posted : (t : ℕ) → HasFlag threads t → owes_of m.0.base.book t ≡ false
  pub lawful : IsLawful m.0.base.book
  pub notes : NotesBelow m.0.base.book.deal.threads m.0.base.board

-- the slot went on from what the seat took, by the seat's threads alone
pub record SlotGoesOn (v : View) (slot after : Slot) : Type 0 where
  pub within : Within slot.book after.book
  pub lawful : IsLawful after.book
  pub notes : NotesBelow slot.book.deal.threads after.board
  pub others : (t : ℕ) → (Serves v t → ⊥) → SameOf t slot.book after.book

-- no thread of the seat posted or took a step
pub record Stays (v w : View) : Type 0 where
  pub seen : Within v.seen w.seen
  pub own : (t : ℕ) → Serves v t → SameOf t v.seen w.seen
  pub serves : w.serves ≡ v.serves
  pub takes : v.takes ≤ w.takes
  pub turned : Begins v.turned w.turned

-- a turn of the thread, with what is told of it and who is woken
pub record IsWork (slot : Slot) (t : ℕ) (post : Option Post) (work : Work)
    (after : Slot) : Type 0 where
  pub turn : Turn
  pub brief : work.brief ≡ brief turn
  pub tells : TurnsTo slot.book t post turn after.book
  pub owes : work.owes ≡ owes_of after.book t
  pub wakes : WakesBelow slot.book.deal.threads work.wakes
  pub notes : NotesBelow slot.book.deal.threads after.board

-- none of the threads has its turn, and the board may have changed
pub record IsPassed (slot after : Slot) : Type 0 where
  pub book : after.book ≡ slot.book
  pub notes : NotesBelow slot.book.deal.threads after.board

-- a turn of one of these threads, where one is answered
pub record IsFound (threads : List Bool) (slot : Slot) (t : ℕ) (done : Work)
    (after : Slot) : Type 0 where
  pub serves : HasFlag threads t
  pub work : IsWork slot t None done after
  pub tells : TellsEnd threads t work.turn after.book

abbrev pub IsSwept : List Bool → Slot → Option (ℕ × Work) → Slot → Type 0
IsSwept serves slot found after =
    MatchOption found (IsPassed slot after) (λ r. IsFound serves slot r.0 r.1 after)
