-- The loop over the steps of a run.
use Rattle.std.proofs.Common.{◌≡◌, ℕ, zero, suc, List, [], ◌∷◌, ◌++◌, replicate, get_or, refl}
use Rattle.hb_race.specs.Table.{clock_entry}

pub zeros : (n u : ℕ) → get_or (replicate n zero) u zero ≡ zero
zeros zero u = refl
zeros (suc n) zero = refl
zeros (suc n) (suc u) = zeros n u

-- one more row of zeros
pub pushed : (table : List (List ℕ)) → ((row u : ℕ) → clock_entry table row u ≡ zero) → (row u : ℕ)
    → clock_entry (table ++ replicate 64 zero ∷ []) row u ≡ zero
pushed [] empty zero u = zeros 64 u
pushed [] empty (suc row) u = refl
pushed (line ∷ table) empty zero u = empty zero u
pushed (line ∷ table) empty (suc row) u = pushed table (λ p k. empty (suc p) k) row u
