-- A text as lines (this project).
use Rattle.std.specs.Prelude.{◌≡◌, ℕ, ◌-◌, ◌<◌, ◌⊎◌, Bool, true, false, List, [], ◌∷◌, length}
use Rattle.std.specs.Prelude.{drop}

-- a line's bytes without its LF, and whether it has one
pub record LineBytes : Type 0 where
  pub text : List ℕ
  pub whole : Bool

-- the first of some pieces, and nothing where there is none
abbrev pub first_line : List (List ℕ) → LineBytes
first_line [] = record { text = []; whole = false }
first_line (piece ∷ []) = record { text = piece; whole = false }
first_line (piece ∷ next ∷ pieces) = record { text = piece; whole = true }

-- line k, from 1
abbrev pub line_at : List (List ℕ) → ℕ → LineBytes
line_at pieces k = first_line (drop (k - 1) pieces)

-- there is a byte of the line
abbrev pub HasByte : LineBytes → Type 0
HasByte line = (line.whole ≡ true) ⊎ (0 < length line.text)
