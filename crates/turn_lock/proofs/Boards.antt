-- What is noted on a wait board.
use Rattle.std.proofs.Common.{◌≡◌, ℕ, zero, suc, ◌<◌, List, [], ◌∷◌, Option, None, Some, set}
use Rattle.std.proofs.Common.{replicate, arith}
use Rattle.turn_lock.specs.Slots.{NotesBelow}

-- nothing is noted on a new board
pub no-notes : (threads n : ℕ) → NotesBelow threads (replicate n None)
no-notes threads zero t word e = cc
no-notes threads (suc n) zero word e = cc
no-notes threads (suc n) (suc t) word e = no-notes threads n t word e

-- a note of a thread's word leaves it so
pub notes-set : (threads t word : ℕ) (board : List (Option ℕ)) → word < threads
    → NotesBelow threads board → NotesBelow threads (set board t (Some word))
notes-set threads zero word [] below notes u w e = cc
notes-set threads (suc t) word [] below notes u w e = cc
notes-set threads zero word (x ∷ board) below notes zero w e = let same : word ≡ w = cc in
    omega (arith, same)
notes-set threads zero word (x ∷ board) below notes (suc u) w e = notes (suc u) w e
notes-set threads (suc t) word (x ∷ board) below notes zero w e = notes zero w e
notes-set threads (suc t) word (x ∷ board) below notes (suc u) w e =
    notes-set threads t word board below (λ i n f. notes (suc i) n f) u w e
