-- Whom a call wakes: the turn words that it changes after it freed the lock (this project).
use Rattle.std.specs.Prelude.{◌≡◌, ◌<◌, ◌≤◌, ℕ, Some, None, IsSome}
use Rattle.policy_pick.specs.declared.chance.Pick.TheVariants.{Thread}
use Rattle.turn_book.specs.Told.{BookState, choice_of}
use Rattle.turn_lock.specs.Slots.{Slot, word_noted}
use Rattle.turn_lock.specs.declared.work.Wakes.{Wakes}
use Rattle.turn_lock.specs.declared.work.Wakes.TheVariants.{Nobody, One, All}
use Rattle.pct_ask.specs.declared.limits.TheConstants.{MAX_THREADS}

-- each word that a call changes is a thread's
abbrev pub WakesBelow : ℕ → Wakes → Type 0
WakesBelow threads Nobody = Unit {0}
WakesBelow threads (One word) = word < threads
WakesBelow threads (All first) = first ≤ threads

-- no outcome stands, and it is the thread's turn
abbrev pub HasTurn : BookState → ℕ → Type 0
HasTurn book t = (book.outcome ≡ None) × (choice_of book ≡ Some (Thread t))

-- The words that a call changes are those of whoever may go on: the one that was noted for the
-- thread that has its turn, and once an outcome stands the first so many, among them every one that
-- was noted.
abbrev pub AreDue : Slot → Wakes → Type 0
AreDue slot Nobody =
    (slot.book.outcome ≡ None)
    × ((u : ℕ) → u < MAX_THREADS → HasTurn slot.book u → word_noted slot.board u ≡ None)
AreDue slot (One word) = (u : ℕ) × HasTurn slot.book u × (word_noted slot.board u ≡ Some word)
AreDue slot (All first) =
    IsSome slot.book.outcome
    × ((u word : ℕ) → u < MAX_THREADS → word_noted slot.board u ≡ Some word → word < first)
