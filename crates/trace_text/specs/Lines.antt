-- A text as lines, and a line as words (this project).
use Rattle.std.specs.Prelude.{ℕ, ◌-◌, Bool, true, false, List, [], ◌∷◌, zero, suc, Option}
use Rattle.std.specs.Prelude.{Some, None, not}

-- the list has nothing
abbrev pub is_empty : {X : Type 0} → List X → Bool
is_empty [] = true
is_empty (x ∷ xs) = false

-- a piece, from 0, and whether it has its LF
abbrev pub piece_at : List (List ℕ) → ℕ → Option (List ℕ × Bool)
piece_at [] k = None
piece_at (p ∷ ps) zero = Some (p, not (is_empty ps))
piece_at (p ∷ ps) (suc k) = piece_at ps k

-- line k, from 1
abbrev pub line_at : List (List ℕ) → ℕ → Option (List ℕ × Bool)
line_at pieces k = piece_at pieces (k - 1)

-- the bytes of a line, and none where there is no such line
abbrev pub text_in : Option (List ℕ × Bool) → List ℕ
text_in None = []
text_in (Some line) = line.0

-- the line has its LF
abbrev pub is_whole : Option (List ℕ × Bool) → Bool
is_whole None = false
is_whole (Some line) = line.1
