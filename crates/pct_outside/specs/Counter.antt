-- Counts that never fall. They are kept in 64 bits, and so have a last value (this project).
use Rattle.std.specs.Prelude.{◌≡◌, ℕ, ◌+◌, ◌-◌, ◌^◌, ◌<◌, ◌⊎◌, min, List, Bool, ◌==◌}
use Rattle.std.specs.List.{list_any}

-- the count has grown, or stands at its last value
abbrev pub Rose : ℕ → ℕ → Type 0
Rose before after = (before < after) ⊎ (after ≡ 2 ^ 64 - 1)

-- one more, and never past the last value
abbrev pub one_more : ℕ → ℕ
one_more n = min (n + 1) (2 ^ 64 - 1)

-- whether the number of the next call, after so many, is among these
abbrev pub is_next : List ℕ → ℕ → Bool
is_next numbers calls = list_any (λ n. n == one_more calls) numbers
