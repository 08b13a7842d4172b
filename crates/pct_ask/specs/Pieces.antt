-- The pieces of a text between its LFs, and how the code's values stand for them (this project).
use Rattle.std.specs.Prelude.{ℕ, ◌+◌, ◌==◌, List, [], map, Option, Some, None, length}
use Rattle.std.specs.List.{slice_split}
use Rattle.std.proofs.Common.{Bor}

-- What stands between the LFs of a text: each piece but the last is a line with its LF, and the
-- last one is what stands after the last LF.
abbrev pub pieces_of : List ℕ → List (List ℕ)
pieces_of bytes = slice_split (λ b. b == 10) bytes

-- the pieces after an LF, where there was one
abbrev pub pieces_after : Option (Bor (List ℕ)) → List (List ℕ)
pieces_after None = []
pieces_after (Some rest) = pieces_of rest.now

-- how many bytes come after a line, with its LF
abbrev pub length_after : Option (Bor (List ℕ)) → ℕ
length_after None = 0
length_after (Some rest) = length rest.now + 1

-- words without where they lie in memory
abbrev pub seen : List (Bor (List ℕ)) → List (List ℕ)
seen words = map (λ word. word.now) words
