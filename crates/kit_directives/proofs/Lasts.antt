-- The last thread of an order.
use Rattle.std.proofs.Common.{◌≡◌, ℕ, ◌-◌, zero, suc, List, [], ◌∷◌, Some, length, refl, ap, ◌∙◌}
use Rattle.std.proofs.Common.{arith}
use Rattle.std.specs.Prelude.{slice_get}
use Rattle.choices.specs.Orders.{EndsIn}

ends-by : (xs : List ℕ) (k low : ℕ) → length xs ≡ suc k → slice_get xs k ≡ Some low
    → EndsIn xs low
ends-by [] k low long is = absurd (omega (arith, long))
ends-by (x ∷ []) zero low long is = ([], (let same : x ≡ low = cc in ap (λ y. y ∷ []) same))
ends-by (x ∷ []) (suc k) low long is = absurd (omega (arith, long))
ends-by (x ∷ y ∷ ys) zero low long is = absurd (omega (arith, long))
ends-by (x ∷ y ∷ ys) (suc k) low long is =
    let r = ends-by (y ∷ ys) k low (omega (arith, long)) is in
    (x ∷ r.0, ap (λ l. x ∷ l) r.1)

pub ends-in : (xs : List ℕ) (low : ℕ) → slice_get xs (length xs - 1) ≡ Some low → EndsIn xs low
ends-in [] low is = absurd cc
ends-in (x ∷ xs) low is =
    let place : length xs ≡ length (x ∷ xs) - 1 = omega arith in
    ends-by (x ∷ xs) (length xs) low refl (ap (slice_get (x ∷ xs)) place ∙ is)
