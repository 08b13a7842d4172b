-- Items of a list by their indices.
use Rattle.std.proofs.Common.{◌≡◌, ℕ, zero, suc, List, [], ◌∷◌, ◌++◌, Some, length, subst}
use Rattle.std.specs.Prelude.{slice_get}
-- what stands below the length
pub use Rattle.worker_run.proofs.Eachs.{get-within}

-- what holds of each item with its index
abbrev pub OfEach : {X : Type 0} → (ℕ → X → Type 0) → List X → Type 0
OfEach {X} P xs = (i : ℕ) (x : X) → slice_get xs i ≡ Some x → P i x

-- it holds of a list with one more item
pub items-more : {X : Type 0} (P : ℕ → X → Type 0) (xs : List X) (new : X) → OfEach P xs
    → P (length xs) new → OfEach P (xs ++ new ∷ [])
items-more P [] new all here zero x at = subst (P 0) (let same : new ≡ x = cc in same) here
items-more P [] new all here (suc i) x at = absurd cc
items-more P (y ∷ xs) new all here zero x at = all zero x at
items-more P (y ∷ xs) new all here (suc i) x at =
    items-more (λ k. P (suc k)) xs new (λ k. all (suc k)) here i x at
