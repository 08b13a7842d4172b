-- The lists of change points, listed (this project).
use Rattle.std.specs.Prelude.{ℕ, zero, suc, ◌≤◌, List, [], ◌∷◌, map}
use Rattle.std.specs.List.{flat_map, range_with_len}

-- a step that there may be
abbrev pub IsWithin : ℕ → ℕ → Type 0
IsWithin steps point = (1 ≤ point) × (point ≤ steps)

-- all lists of so many numbers in 1..k, the first number varying slowest
abbrev pub pointlists : ℕ → ℕ → List (List ℕ)
pointlists k zero = [] ∷ []
pointlists k (suc many) =
    flat_map (λ point. map (λ points. point ∷ points) (pointlists k many)) (range_with_len 1 k)
