-- Positions in a list that are counted from 1, as the steps of a schedule and the change points of
-- PCT are.
use Rattle.std.specs.Prelude.{ℕ, zero, suc, Bool, false, if◌then◌else◌, List, length, slice_get}
use Rattle.std.specs.Option.{option_map_or}

-- the greatest number from 1 to n that passes the test, and 0 where none does
abbrev pub greatest_where : (ℕ → Bool) → ℕ → ℕ
greatest_where test zero = 0
greatest_where test (suc n) = if test (suc n) then suc n else greatest_where test n

-- whether the list has an item at the position, and it passes the test
abbrev pub passes_at : {X : Type 0} → (X → Bool) → List X → ℕ → Bool
passes_at test items zero = false
passes_at test items (suc k) = option_map_or test (slice_get items k) false

-- the greatest position of an item that passes the test, and 0 where none does
abbrev pub last_position : {X : Type 0} → (X → Bool) → List X → ℕ
last_position test items = greatest_where (passes_at test items) (length items)
