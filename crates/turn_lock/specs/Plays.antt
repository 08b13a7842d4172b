-- What each step tells: of the step, the seat before, the number found and the seat after (this
-- project).
use Rattle.std.specs.Prelude.{◌≡◌, ◌≢◌, ◌<◌, ◌+◌, ℕ, true, false, [], ◌∷◌, ◌++◌}
use Rattle.atomic_table.specs.Table.{Me, Step, rest}
use Rattle.turn_book.specs.Told.{BookState, IsLawful, Within}
use Rattle.turn_lock.specs.Slots.{Slot, NotesBelow}
use Rattle.turn_lock.specs.Rule.{Serves, HasFlag, Ties}
use Rattle.turn_lock.specs.Seen.{SameOf, ObeysPlan}
use Rattle.turn_lock.specs.declared.view.View.{View}

-- a seat: its view, and the slots that it has taken
abbrev pub SeatWithSlots : Type 0
SeatWithSlots = Me Slot View

-- it holds the lock, and has taken this slot
abbrev pub with_lock : View → Slot → View
with_lock v slot = record {
  live = v.live;
  serves = v.serves;
  seen = v.seen;
  turned = v.turned;
  takes = v.takes + 1;
  held = true;
  base = slot;
  left = v.left;
  right = v.right;
  left_had = v.left_had;
  right_had = v.right_had;
}

-- its exchange failed, and read this holder
abbrev pub turned_away : View → ℕ → View
turned_away v holder = record {
  live = v.live;
  serves = v.serves;
  seen = v.seen;
  turned = v.turned ++ holder ∷ [];
  takes = v.takes;
  held = v.held;
  base = v.base;
  left = v.left;
  right = v.right;
  left_had = v.left_had;
  right_had = v.right_had;
}

-- it has freed the lock, and gave this book back
abbrev pub with_book : View → BookState → View
with_book v book = record {
  live = v.live;
  serves = v.serves;
  seen = book;
  turned = v.turned;
  takes = v.takes;
  held = false;
  base = record { book = book; board = [] };
  left = book;
  right = book;
  left_had = [];
  right_had = [];
}

-- a slot that was taken: what was true of it while it was at home
pub record IsTaken (v : View) (slot : Slot) : Type 0 where
  pub ties : Ties v slot.book
  pub lawful : IsLawful slot.book
  pub notes : NotesBelow v.seen.deal.threads slot.board

-- a failed exchange found another seat's thread in the lock word
pub record IsTurnedAway (m : SeatWithSlots) (found : ℕ) (n : SeatWithSlots) : Type 0 where
  pub holder : ℕ
  pub found_is : found ≡ holder + 1
  pub after : n ≡ (turned_away m.0 holder, m.1)
  pub other : ¬ Serves m.0 holder
  pub thread : holder < m.0.seen.deal.threads
  pub obeys : ObeysPlan m.0.seen

-- compare and exchange on the lock word
abbrev pub Grabs : Step Slot → SeatWithSlots → ℕ → SeatWithSlots → Type 0
Grabs step m found n =
    (found ≡ 0 → (slot : Slot) × (n ≡ (with_lock m.0 slot, (0, slot) ∷ m.1)) × IsTaken m.0 slot)
    × (found ≢ 0 → IsTurnedAway m found n)

-- the store that frees the lock: the slot goes back, and its book is what the seat has seen
abbrev pub Unlocks : Step Slot → SeatWithSlots → ℕ → SeatWithSlots → Type 0
Unlocks step m stored n =
    (slot : Slot) → m.1 ≡ (0, slot) ∷ rest m.1 → n ≡ (with_book m.0 slot.book, rest m.1)

-- a step on a turn word
abbrev pub Marks : Step Slot → SeatWithSlots → ℕ → SeatWithSlots → Type 0
Marks step m found n = n ≡ m

-- a load of the lock word by a joined seat, which tells what the rule says of its last join
pub record Looks (step : Step Slot) (m : SeatWithSlots) (found : ℕ) (n : SeatWithSlots)
    : Type 0 where
  pub same : n ≡ m
  pub obeys : ObeysPlan m.0.seen
  pub left : Within m.0.left m.0.seen
  pub right : Within m.0.right m.0.seen
  pub left_own : (t : ℕ) → HasFlag m.0.left_had t → SameOf t m.0.left m.0.seen
  pub right_own : (t : ℕ) → HasFlag m.0.right_had t → SameOf t m.0.right m.0.seen
