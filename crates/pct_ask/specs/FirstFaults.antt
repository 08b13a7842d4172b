-- The first fault of a text, whatever faults its lines may have (this project).
use Rattle.std.specs.Prelude.{ℕ, ◌<◌}

-- The line is faulty by the kind and by none before it in the kinds' order, and no line before it
-- is
-- faulty.
pub record IsFirstFault {Kind : Type 0} (rank : Kind → ℕ) (IsFaulty : ℕ → Kind → Type 0) (line : ℕ)
    (kind : Kind) : Type 0 where
  pub faulty : IsFaulty line kind
  pub first_kind : (other : Kind) → rank other < rank kind → ¬ IsFaulty line other
  pub first_line : (before : ℕ) (other : Kind) → before < line → ¬ IsFaulty before other
