-- The first threads of a book.
use Rattle.std.proofs.Common.{◌≡◌, ℕ, zero, suc, ◌+◌, ◌-◌, ◌<◌, true, false, ◌++◌, get_or}
use Rattle.std.proofs.Common.{replicate, refl, sym, ◌∙◌, arith}
use Rattle.std.proofs.lemmas.Bool.{false≢true}
use Rattle.turn_lock.specs.Rule.{HasFlag, first_threads}

none-first : (m t : ℕ) → get_or (replicate m false) t false ≡ false
none-first zero t = refl
none-first (suc m) zero = refl
none-first (suc m) (suc t) = none-first m t

below-first : (k m t : ℕ) → get_or (replicate k true ++ replicate m false) t false ≡ true → t < k
below-first zero m t h = absurd (false≢true (sym (none-first m t) ∙ h))
below-first (suc k) m zero h = omega arith
below-first (suc k) m (suc t) h = let b = below-first k m t h in omega arith

pub first-below : (k t : ℕ) → HasFlag (first_threads k) t → t < k
first-below k t h = below-first k (64 - k) t h

has-first : (k m t : ℕ) → t < k → get_or (replicate k true ++ replicate m false) t false ≡ true
has-first zero m t h = absurd (omega arith)
has-first (suc k) m zero h = refl
has-first (suc k) m (suc t) h = has-first k m t (omega arith)

pub first-has : (k t : ℕ) → t < k → HasFlag (first_threads k) t
first-has k t h = has-first k (64 - k) t h
