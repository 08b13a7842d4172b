-- What lies in the slot of the lock's table: a book and a wait board (this project).
use Rattle.std.specs.Prelude.{◌≡◌, ◌<◌, ℕ, List, Option, Some, None, replicate, slice_index_or}
use Rattle.turn_book.specs.Told.{BookState}
use Rattle.pct_ask.specs.declared.limits.TheConstants.{MAX_THREADS}

-- for each thread, the word that was noted for it last
abbrev pub NotedWords : Type 0
NotedWords = List (Option ℕ)

-- what a call takes with the lock: the book of turns, and the wait board
pub record Slot : Type 0 where
  pub book : BookState
  pub board : NotedWords

-- the word that is noted for a thread
abbrev pub word_noted : NotedWords → ℕ → Option ℕ
word_noted board t = slice_index_or board t None

-- every word on the board is a thread's
abbrev pub NotesBelow : ℕ → NotedWords → Type 0
NotesBelow threads board = (t word : ℕ) → word_noted board t ≡ Some word → word < threads

-- a book, and nothing noted
abbrev pub new_slot : BookState → Slot
new_slot book = record { book = book; board = replicate MAX_THREADS None }
