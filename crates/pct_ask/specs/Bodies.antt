-- Bodies, each seen as what its thread posts after a list of answers (this project).
use Rattle.std.specs.Prelude.{ℕ, ℤ, List, None, slice_index_or}
use Rattle.pct_ask.specs.declared.ask.Post.{Post}
use Rattle.pct_ask.specs.Objects.{Sizes, PostIsInRange}

-- what a thread posts after the answers that it has had
abbrev pub Pending : Type 0
Pending = List ℤ → Post

-- a thread that there isn't has ended
abbrev pub no_body : Pending
no_body answers = record { ask = None; line = 0 }

-- what the thread's body posts
abbrev pub pending_of : List Pending → ℕ → Pending
pending_of bodies t = slice_index_or bodies t no_body

-- whatever it is answered, the body names only threads and objects that there are
abbrev pub IsInRangeBody : Sizes → Pending → Type 0
IsInRangeBody sizes pending = (answers : List ℤ) → PostIsInRange sizes (pending answers).ask

-- so does each of the bodies
abbrev pub AreInRange : Sizes → List Pending → Type 0
AreInRange sizes bodies = (t : ℕ) → IsInRangeBody sizes (pending_of bodies t)
