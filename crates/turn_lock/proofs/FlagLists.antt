-- Lists of flags, made one by one.
use Rattle.std.proofs.Common.{◌≡◌, ℕ, zero, suc, ◌+◌, ◌-◌, ◌<◌, Bool, true, false, ◌||◌, List, []}
use Rattle.std.proofs.Common.{◌∷◌, ◌++◌, length, get_or, set, replicate, refl, ap, ◌∙◌, arith}
use Rattle.turn_lock.specs.Rule.{first_threads}
use Rattle.turn_lock.specs.Seats.{flags_of_either}

-- ---- the first threads
set-first : (k m : ℕ) → set (replicate k true ++ replicate (suc m) false) k true
    ≡ replicate (suc k) true ++ replicate m false
set-first zero m = refl
set-first (suc k) m = ap (λ l. true ∷ l) (set-first k m)

pub first-more : (k : ℕ) → k < 64 → set (first_threads k) k true ≡ first_threads (k + 1)
first-more k below = let e : 64 - k ≡ suc (64 - (k + 1)) = omega arith in
    let f : suc k ≡ k + 1 = omega arith in
    ap (λ m. set (replicate k true ++ replicate m false) k true) e ∙ set-first k (64 - (k + 1))
    ∙ ap (λ n. replicate n true ++ replicate (64 - (k + 1)) false) f

-- ---- the threads of both
abbrev pub mixed : ℕ → List Bool → List Bool → List Bool
mixed zero ones others = ones
mixed (suc n) [] others = []
mixed (suc n) (one ∷ ones) [] = one ∷ ones
mixed (suc n) (one ∷ ones) (other ∷ others) = (one || other) ∷ mixed n ones others

pub mixed-step : (i : ℕ) (xs ys : List Bool) (d e : Bool) → i < length xs → i < length ys
    → set (mixed i xs ys) i (get_or (mixed i xs ys) i d || get_or ys i e) ≡ mixed (suc i) xs ys
mixed-step i [] ys d e h k = absurd (omega arith)
mixed-step i (x ∷ xs) [] d e h k = absurd (omega arith)
mixed-step zero (x ∷ xs) (y ∷ ys) d e h k = refl
mixed-step (suc i) (x ∷ xs) (y ∷ ys) d e h k =
    ap (λ l. (x || y) ∷ l) (mixed-step i xs ys d e (omega arith) (omega arith))

none : (n : ℕ) → mixed n [] [] ≡ flags_of_either [] []
none zero = refl
none (suc n) = refl

pub mixed-all : (n : ℕ) (xs ys : List Bool) → length xs ≡ n → length ys ≡ n
    → mixed n xs ys ≡ flags_of_either xs ys
mixed-all n [] [] h k = none n
mixed-all n [] (y ∷ ys) h k = absurd (omega arith)
mixed-all n (x ∷ xs) [] h k = absurd (omega arith)
mixed-all zero (x ∷ xs) (y ∷ ys) h k = absurd (omega arith)
mixed-all (suc n) (x ∷ xs) (y ∷ ys) h k =
    ap (λ l. (x || y) ∷ l) (mixed-all n xs ys (omega arith) (omega arith))
