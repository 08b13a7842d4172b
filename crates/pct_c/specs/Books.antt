-- What a handle holds, as plain data (this project).
use Rattle.std.specs.Prelude.{◌≡◌, ℕ, Option, Some, None}
use Rattle.turn_book.specs.Told.{BookState}
use Rattle.pct_c.specs.declared.book.Book.{Book}
use Rattle.pct_c.specs.declared.book.Book.TheVariants.{Points, Moments, Listed}
use Rattle.pct_c.specs.declared.kept.Kept.{Kept}
use Rattle.pct_c.specs.declared.kept.Kept.TheVariants.{Book as OfBook, Trace as OfTrace}

-- what contracts see of a book
abbrev pub state_of : Book → BookState
state_of (Points b) = b
state_of (Moments b) = b
state_of (Listed b) = b

-- What a call does to the book that is held before and after it. Where none is held, the status
-- says
-- so, and what is held stays.
abbrev pub OnKept : (BookState → BookState → Type 0) → ℕ → Kept → Kept → Type 0
OnKept Call status (OfBook old) (OfBook new) = Call (state_of old) (state_of new)
OnKept Call status (OfBook old) (OfTrace new) = ⊥
OnKept Call status (OfTrace old) (OfBook new) = ⊥
OnKept Call status (OfTrace old) (OfTrace new) = (status ≡ 7) × (new ≡ old)

abbrev pub OnHeld : (BookState → BookState → Type 0) → ℕ → Option Kept → Option Kept → Type 0
OnHeld Call status None None = status ≡ 7
OnHeld Call status None (Some new) = ⊥
OnHeld Call status (Some old) None = ⊥
OnHeld Call status (Some old) (Some new) = OnKept Call status old new
