-- What stands at a place of a list that was changed at one place.
use Rattle.std.proofs.Common.{◌≡◌, ◌≢◌, ℕ, zero, suc, List, [], ◌∷◌, ◌++◌, length, set, replicate}
use Rattle.std.proofs.Common.{true, false, Some, slice_get, refl, ap, ◌⊎◌, inl, inr, arith}

pub slice_get-push : {X : Type 0} (xs : List X) (x y : X) (k : ℕ)
    → slice_get (xs ++ x ∷ []) k ≡ Some y → (slice_get xs k ≡ Some y) ⊎ ((k ≡ length xs) × (x ≡ y))
slice_get-push [] x y zero at = inr (refl, cc)
slice_get-push [] x y (suc k) at = absurd cc
slice_get-push (a ∷ xs) x y zero at = inl at
slice_get-push (a ∷ xs) x y (suc k) at = elim (slice_get-push xs x y k at) [
  | inl there ↦ inl there
  | inr here ↦ inr (ap suc here.0, here.1)
]

pub slice_get-set : {X : Type 0} (xs : List X) (i k : ℕ) (x y : X)
    → slice_get (set xs i x) k ≡ Some y
    → ((k ≡ i) × (x ≡ y)) ⊎ ((k ≢ i) × (slice_get xs k ≡ Some y))
slice_get-set [] i k x y at = absurd cc
slice_get-set (a ∷ xs) zero zero x y at = inl (refl, cc)
slice_get-set (a ∷ xs) zero (suc k) x y at = inr (λ e. omega arith, at)
slice_get-set (a ∷ xs) (suc i) zero x y at = inr (λ e. omega arith, at)
slice_get-set (a ∷ xs) (suc i) (suc k) x y at = elim (slice_get-set xs i k x y at) [
  | inl here ↦ inl (ap suc here.0, here.1)
  | inr other ↦ inr (λ e. other.0 (omega arith), other.1)
]

pub slice_get-replicate : {X : Type 0} (n k : ℕ) (x y : X) → slice_get (replicate n x) k ≡ Some y
    → x ≡ y
slice_get-replicate zero k x y at = absurd cc
slice_get-replicate (suc n) zero x y at = cc
slice_get-replicate (suc n) (suc k) x y at = slice_get-replicate n k x y at

pub not-true : false ≡ true → ⊥
not-true e = cc
