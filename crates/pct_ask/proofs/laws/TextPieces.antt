-- A text of which a line was cut off.
use Rattle.std.specs.Prelude.{◌==◌}
use Rattle.std.proofs.Common.{◌≡◌, ℕ, false, List, [], ◌∷◌, length, Option, Some, Bor, ap, ◌∙◌}
use Rattle.std.proofs.Common.{arith}
use Rattle.pct_ask.specs.Pieces.{pieces_of, pieces_after}

-- where something follows the first piece, its pieces follow
pub pieces-cut : (pieces : List (List ℕ)) (text : List ℕ) (rest : Option (Bor (List ℕ)))
    (after : Bor (List ℕ)) → pieces ≡ text ∷ pieces_after rest → rest ≡ Some after
    → pieces ≡ text ∷ pieces_of after.now
pieces-cut pieces text rest after is some = is ∙ ap (λ r. text ∷ pieces_after r) some

-- a text that isn't empty by the test isn't
pub not-empty : (after : List ℕ) → (length after == 0) ≡ false → length after ≡ 0 → ⊥
not-empty [] test none = cc
not-empty (b ∷ bs) test none = omega arith
