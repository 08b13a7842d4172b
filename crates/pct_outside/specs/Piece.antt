-- What a put does to the bytes on a sink, where the sink tells them (this project).
use Rattle.std.specs.Prelude.{◌≡◌, ℕ, List, ◌++◌, Option, Some, None}
use Rattle.std.specs.Io.KnownBytes.{Appends}

-- the piece, whole, has been appended to what was written
abbrev pub IsAppended : List ℕ → Option (List ℕ) → Option (List ℕ) → Type 0
IsAppended piece None after = after ≡ None
IsAppended piece (Some before) after = after ≡ Some (before ++ piece)

-- a prefix of the piece, which may be empty or whole, has been appended
abbrev pub IsPartAppended : List ℕ → Option (List ℕ) → Option (List ℕ) → Type 0
IsPartAppended piece None after = after ≡ None
IsPartAppended piece (Some before) after =
    (part : List ℕ) × (rest : List ℕ) × (piece ≡ part ++ rest) × (after ≡ Some (before ++ part))

-- a prefix of the piece has been appended to what a writer holds, where this is known
abbrev pub AppendsPart : Option (List ℕ) → Option (List ℕ) → List ℕ → Type 0
AppendsPart before after piece =
    (part : List ℕ) × (rest : List ℕ) × (piece ≡ part ++ rest) × Appends before after part
