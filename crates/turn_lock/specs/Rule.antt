-- What is true of the lock's table between any two steps (this project). Word 0 is the lock word:
-- it is 0 where the lock is free, and else the holder's thread plus 1. Word t + 1 is the turn word
-- of the thread t, of which nothing is said. The one slot has the book and the wait board.
use Rattle.std.specs.Prelude.{◌≡◌, ◌<◌, ◌+◌, ◌-◌, ◌++◌, ℕ, Bool, true, false, List, [], None}
use Rattle.std.specs.Prelude.{length, replicate, slice_index, slice_index_or}
use mathlib.Core.Option.{some}
use lib.ListN.{get_elem?}
use native.Mathlib.Nat.{not-suc-le-zero}
use Prim.Native.Nat.{suc-le-suc, zero-le}
use Rattle.atomic_table.specs.Table.{State}
use Rattle.pct_ask.specs.declared.Deal.{Deal}
use Rattle.policy_pick.specs.Plan.{ByList}
use Rattle.turn_book.specs.Told.{BookState, SameMaking, IsLawful, Within}
use Rattle.turn_lock.specs.Seen.{SameOf, ObeysPlan}
use Rattle.turn_lock.specs.Slots.{Slot, NotesBelow}
use Rattle.turn_lock.specs.declared.view.View.{View}
use Rattle.pct_ask.specs.declared.limits.TheConstants.{MAX_THREADS}

abbrev pub LockState : Type 0
LockState = State Slot View

-- whether a thread is on a list that has a flag for each thread
abbrev pub HasFlag : List Bool → ℕ → Type 0
HasFlag threads t = slice_index_or threads t false ≡ true

-- the thread is one of the seat's own
abbrev pub Serves : View → ℕ → Type 0
Serves v t = HasFlag v.serves t

-- What a live seat has to do with the book. It has seen a beginning of it, and of its own threads
-- all. Each of the two seats of its last join had seen a beginning of what it has seen since, with
-- all of the threads that it served.
pub record Ties (v : View) (book : BookState) : Type 0 where
  pub within : Within v.seen book
  pub obeys : ObeysPlan v.seen
  pub own : (t : ℕ) → Serves v t → SameOf t v.seen book
  pub left : Within v.left v.seen
  pub right : Within v.right v.seen
  pub left_own : (t : ℕ) → HasFlag v.left_had t → SameOf t v.left v.seen
  pub right_own : (t : ℕ) → HasFlag v.right_had t → SameOf t v.right v.seen

-- what the seat that holds the lock knows: the slot that it took, and its own number in the lock
-- word
pub record HoldsLock (v : View) (slot : Slot) (word : ℕ) : Type 0 where
  pub base : v.base ≡ slot
  pub thread : ℕ
  pub serves : Serves v thread
  pub word_is : word ≡ thread + 1

-- a seat that holds the lock and serves the thread
pub record Holder (s : LockState) (t : ℕ) : Type 0 where
  pub id : ℕ
  pub view : View
  pub at : get_elem? s.views id ≡ some view
  pub serves : Serves view t
  pub held : view.held ≡ true

-- The rule that the lock's table keeps between any two steps (this project), with the book that the
-- lock was made with. Nobody holds the lock, or the one seat whose thread the lock word names. No
-- two seats serve one thread, and a seat that was joined to another serves none. The slot, as it
-- was when it was last at home, has a lawful book of the same making, and what each live seat has
-- seen is how that book begins.
pub record KeepsRule (made : BookState) (s : LockState) : Type 0 where
  -- the slot's value when it was last at home
  pub slot : Slot
  pub making : SameMaking made slot.book
  pub lawful : IsLawful slot.book
  pub notes : NotesBelow made.deal.threads slot.board
  pub words : length s.words ≡ made.deal.threads + 1
  pub slots : length s.homes ≡ 1
  -- the lock word
  pub free : slice_index s.words 0 ≡ 0 → get_elem? s.homes 0 ≡ some (some slot)
  pub taken : (t : ℕ) → slice_index s.words 0 ≡ t + 1 → (t < made.deal.threads) × Holder s t
  pub holds : (id : ℕ) (v : View) → get_elem? s.views id ≡ some v → v.held ≡ true
      → HoldsLock v slot (slice_index s.words 0)
  -- the seats
  pub ties : (id : ℕ) (v : View) → get_elem? s.views id ≡ some v → v.live ≡ true → Ties v slot.book
  pub spent : (id : ℕ) (v : View) (t : ℕ) → get_elem? s.views id ≡ some v → Serves v t
      → v.live ≡ true
  pub apart : (i j : ℕ) (v w : View) (t : ℕ) → get_elem? s.views i ≡ some v
      → get_elem? s.views j ≡ some w → Serves v t → Serves w t → i ≡ j

-- the first so many of the threads that a test may have
abbrev pub first_threads : ℕ → List Bool
first_threads threads = replicate threads true ++ replicate (MAX_THREADS - threads) false

-- the first seat serves every thread of the book, and has seen it
abbrev pub first_view : BookState → View
first_view book = record {
  live = true;
  serves = first_threads book.deal.threads;
  seen = book;
  turned = [];
  takes = 0;
  held = false;
  base = record { book = book; board = [] };
  left = book;
  right = book;
  left_had = [];
  right_had = [];
}

abbrev pub no_deal : Deal
no_deal = record {
  threads = 1;
  vars = [];
  mutexes = 0;
  conds = 0;
  sems = [];
  barriers = [];
  rwlocks = 0;
  some_thread = suc-le-suc zero-le;
  few_threads = suc-le-suc zero-le;
  few_vars = zero-le;
  few_mutexes = zero-le;
  few_conds = zero-le;
  few_sems = zero-le;
  few_barriers = zero-le;
  few_rwlocks = zero-le;
  sem_values = λ k d h. absurd (not-suc-le-zero h);
  barrier_counts = λ k d h. absurd (not-suc-le-zero h);
}

abbrev pub no_book : BookState
no_book = record {
  deal = no_deal;
  limit = 1;
  plan = ByList [];
  posts = [];
  trace = [];
  outcome = None;
}

-- the view of a seat that was joined to another
abbrev pub spent_view : View
spent_view = record {
  live = false;
  serves = [];
  seen = no_book;
  turned = [];
  takes = 0;
  held = false;
  base = record { book = no_book; board = [] };
  left = no_book;
  right = no_book;
  left_had = [];
  right_had = [];
}
