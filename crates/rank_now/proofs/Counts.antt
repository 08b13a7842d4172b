-- How many threads have a value above another, as the value falls by one.
use Rattle.std.proofs.Common.{Bool, cond, nat_lt, ◌≡◌, ◌≢◌, ℕ, suc, ◌+◌, ◌<◌, ◌≤◌, List, [], ◌∷◌}
use Rattle.std.proofs.Common.{length, get_or, set, refl, true, false, ap, ◌∙◌, arith, inl, inr}
use Rattle.std.proofs.Common.{sym}
use Rattle.std.specs.List.{count_by}
use Rattle.std.proofs.lemmas.List.{get_or-set_same, get_or-set_other, length-set}
use Rattle.std.proofs.lemmas.Bool.{cases_eq}
use Rattle.std.proofs.lemmas.Bool.Decides.{nat_tests}
use Rattle.std.proofs.lemmas.List.Sums.{sum_by-cons, sum_by-set}
use Rattle.rank_now.specs.Ranking.{AreDistinctValues, HasValue}

-- what a test adds to a count
abbrev one_if : Bool → ℕ
one_if b = cond b 1 0

-- two tests that agree at each element count alike
count_by-agree : (p q : ℕ → Bool) (xs : List ℕ)
    → ((k : ℕ) → k < length xs → p (get_or xs k 0) ≡ q (get_or xs k 0))
    → count_by p xs ≡ count_by q xs
count_by-agree p q [] agree = refl
count_by-agree p q (x ∷ xs) agree =
    let rest = count_by-agree p q xs (λ k within. agree (suc k) (omega arith)) in
    let here : one_if (p x) ≡ one_if (q x) = ap (λ b. one_if b) (agree 0 (omega arith)) in
    let by_p : count_by p (x ∷ xs) ≡ one_if (p x) + count_by p xs =
    sum_by-cons (λ y. one_if (p y)) x xs in
    let by_q : count_by q (x ∷ xs) ≡ one_if (q x) + count_by q xs =
    sum_by-cons (λ y. one_if (q y)) x xs in
    omega (arith, here)

count_by-none : (p : ℕ → Bool) (xs : List ℕ) → ((k : ℕ) → k < length xs → p (get_or xs k 0) ≡ false)
    → count_by p xs ≡ 0
count_by-none p [] none = refl
count_by-none p (x ∷ xs) none =
    let rest = count_by-none p xs (λ k within. none (suc k) (omega arith)) in
    let here : one_if (p x) ≡ 0 = ap (λ b. one_if b) (none 0 (omega arith)) in
    let by_p : count_by p (x ∷ xs) ≡ one_if (p x) + count_by p xs =
    sum_by-cons (λ y. one_if (p y)) x xs in
    omega (arith, here)

-- below a value that one thread has, one more value lies above
one-more : (values : List ℕ) (thread value : ℕ) → AreDistinctValues values → thread < length values
    → get_or values thread 0 ≡ suc value
    → count_by (nat_lt value) values ≡ count_by (nat_lt (suc value)) values + 1
one-more values thread value distinct within is =
    let without = set values thread 0 in
    let long = length-set values thread 0 in
    let agree : (k : ℕ) → k < length without
    → nat_lt value (get_or without k 0) ≡ nat_lt (suc value) (get_or without k 0) =
    λ k p. elim (cases_eq k thread) [
      | inl e ↦ let z : get_or without k 0 ≡ 0 =
          ap (λ x. get_or without x 0) e ∙ get_or-set_same values thread 0 0 within in
          grind (arith, nat_tests)
      | inr ne ↦ let same = get_or-set_other values thread k 0 0 ne in
          let other : get_or values k 0 ≢ suc value =
          λ e. ne (distinct k thread (omega arith) within (e ∙ sym is)) in
          grind (arith, nat_tests)
    ] in
    let others = count_by-agree (nat_lt value) (nat_lt (suc value)) without agree in
    let low : count_by (nat_lt value) without + one_if (nat_lt value (get_or values thread 0))
    ≡ count_by (nat_lt value) values + one_if (nat_lt value 0) =
    sum_by-set (λ x. one_if (nat_lt value x)) values thread 0 0 within in
    let high : count_by (nat_lt (suc value)) without
    + one_if (nat_lt (suc value) (get_or values thread 0))
    ≡ count_by (nat_lt (suc value)) values + one_if (nat_lt (suc value) 0) =
    sum_by-set (λ x. one_if (nat_lt (suc value) x)) values thread 0 0 within in
    let one : one_if (nat_lt value (get_or values thread 0)) ≡ 1 = grind (arith, nat_tests) in
    let none : one_if (nat_lt (suc value) (get_or values thread 0)) ≡ 0 =
    grind (arith, nat_tests) in
    let zero_low : one_if (nat_lt value 0) ≡ 0 = grind (arith, nat_tests) in
    let zero_high : one_if (nat_lt (suc value) 0) ≡ 0 = grind (arith, nat_tests) in
    omega (arith, one, none, zero_low, zero_high)

count_by-all : (p : ℕ → Bool) (xs : List ℕ) → ((k : ℕ) → k < length xs → p (get_or xs k 0) ≡ true)
    → count_by p xs ≡ length xs
count_by-all p [] all = refl
count_by-all p (x ∷ xs) all =
    let rest = count_by-all p xs (λ k within. all (suc k) (omega arith)) in
    let here : one_if (p x) ≡ 1 = ap (λ b. one_if b) (all 0 (omega arith)) in
    let by_p : count_by p (x ∷ xs) ≡ one_if (p x) + count_by p xs =
    sum_by-cons (λ y. one_if (p y)) x xs in
    omega (arith, here)

-- no value is above the greatest
pub above-none : (values : List ℕ) (greatest : ℕ)
    → ((thread : ℕ) → thread < length values → get_or values thread 0 ≤ greatest)
    → count_by (nat_lt greatest) values ≡ 0
above-none values greatest bound =
    count_by-none (nat_lt greatest) values
    (λ k p. let le = bound k p in grind (arith, nat_tests))

-- all are above 0
pub above-all : (values : List ℕ)
    → ((thread : ℕ) → thread < length values → 1 ≤ get_or values thread 0)
    → count_by (nat_lt 0) values ≡ length values
above-all values positive =
    count_by-all (nat_lt 0) values (λ k p. let le = positive k p in grind (arith, nat_tests))

-- below a value that no thread has, as many lie above
pub above-same : (values : List ℕ) (value next : ℕ) → value ≡ suc next
    → ((thread : ℕ) → ¬ HasValue values value thread)
    → count_by (nat_lt next) values ≡ count_by (nat_lt value) values
above-same values value next down none =
    count_by-agree (nat_lt next) (nat_lt value) values
    (λ k p. let other : get_or values k 0 ≢ value = λ e. none k (record { within = p; has = e }) in
    grind (arith, nat_tests))

-- below one that a thread has, one more does
pub above-more : (values : List ℕ) (value next thread : ℕ) → value ≡ suc next
    → AreDistinctValues values → HasValue values value thread
    → count_by (nat_lt next) values ≡ count_by (nat_lt value) values + 1
above-more values value next thread down distinct has =
    one-more values thread next distinct has.within (has.has ∙ down)
    ∙ ap (λ x. count_by (nat_lt x) values + 1) (sym down)
