-- How many items of a list pass a test.
use Rattle.std.proofs.Common.{Bool, true, false, cond, nat_lt, eqb, eq-eqb, ne_eqb, ◌≡◌, ◌≢◌, ℕ}
use Rattle.std.proofs.Common.{zero, suc, ◌+◌, ◌<◌, ◌≤◌, List, [], ◌∷◌, length, get_or, refl, sym}
use Rattle.std.proofs.Common.{ap, ◌∙◌, arith, inl, inr}
use Rattle.std.specs.List.{remove, count_by}
use Rattle.std.proofs.lemmas.Bool.Decides.{nat_tests}
use Rattle.std.proofs.lemmas.Bool.{cases_eq}
use Rattle.std.proofs.lemmas.List.Sums.{sum_by-cons, sum_by-remove, get_or-le-sum_by}

-- what a test adds to a count
abbrev pub one_if : Bool → ℕ
one_if b = cond b 1 0

-- how many items are this number, and how many are below it
abbrev pub count_of : ℕ → List ℕ → ℕ
count_of thread xs = count_by (λ other. eqb other thread) xs

abbrev pub lower : ℕ → List ℕ → ℕ
lower thread xs = count_by (λ other. nat_lt other thread) xs

pub count-cons : (p : ℕ → Bool) (x : ℕ) (xs : List ℕ)
    → count_by p (x ∷ xs) ≡ one_if (p x) + count_by p xs
count-cons p x xs = sum_by-cons (λ y. one_if (p y)) x xs

pub count-remove : (p : ℕ → Bool) (xs : List ℕ) (i : ℕ) → i < length xs
    → count_by p (remove xs i) + one_if (p (get_or xs i 0)) ≡ count_by p xs
count-remove p xs i within = sum_by-remove (λ y. one_if (p y)) xs i 0 within

pub count-none : (p : ℕ → Bool) (xs : List ℕ)
    → ((k : ℕ) → k < length xs → p (get_or xs k 0) ≡ false) → count_by p xs ≡ 0
count-none p [] none = refl
count-none p (x ∷ xs) none =
    let rest = count-none p xs (λ k within. none (suc k) (omega arith)) in
    let here : one_if (p x) ≡ 0 = ap (λ b. one_if b) (none 0 (omega arith)) in
    omega (arith, here, count-cons p x xs)

pub count-all : (xs : List ℕ) → count_by (λ _. true) xs ≡ length xs
count-all [] = refl
count-all (x ∷ xs) = omega (arith, count-all xs, count-cons (λ _. true) x xs)

-- an item that passes is counted
pub count-some : (p : ℕ → Bool) (xs : List ℕ) (k : ℕ) → k < length xs → p (get_or xs k 0) ≡ true
    → 1 ≤ count_by p xs
count-some p xs k within passes =
    let here : one_if (p (get_or xs k 0)) ≡ 1 = ap (λ b. one_if b) passes in
    omega (arith, here, get_or-le-sum_by (λ y. one_if (p y)) xs k 0 within)

one-if-other : (x y : ℕ) → x ≢ y → one_if (eqb x y) ≡ 0
one-if-other x y ne = ap (λ b. one_if b) (ne_eqb x y ne)

-- a number that is counted stands somewhere
pub located : (thread : ℕ) (xs : List ℕ) → 1 ≤ count_of thread xs
    → (k : ℕ) × (k < length xs) × (get_or xs k 0 ≡ thread)
located thread [] some = absurd (omega arith)
located thread (x ∷ xs) some =
    elim (cases_eq x thread) [
      | inl same ↦ (0, omega arith, same)
      | inr other ↦ let rest =
          located thread xs (omega (
            arith,
            count-cons (λ y. eqb y thread) x xs,
            one-if-other x thread other,
          )) in
          (suc rest.0, omega (arith, rest.1), rest.2)
    ]

-- a number that stands at one place alone is counted once
pub count-once : (thread : ℕ) (xs : List ℕ) (k : ℕ) → k < length xs → get_or xs k 0 ≡ thread
    → ((i j : ℕ) → i < j → j < length xs → get_or xs i 0 ≢ get_or xs j 0) → count_of thread xs ≡ 1
count-once thread [] k within at once = absurd (omega arith)
count-once thread (x ∷ xs) zero within at once =
    let rest = count-none (λ y. eqb y thread) xs
    (λ i p. ne_eqb (get_or xs i 0) thread
    (λ e. once 0 (suc i) (omega arith) (omega arith) (at ∙ sym e))) in
    let here : one_if (eqb x thread) ≡ 1 = ap (λ b. one_if b) (eq-eqb x thread at) in
    omega (arith, here, rest, count-cons (λ y. eqb y thread) x xs)
count-once thread (x ∷ xs) (suc k) within at once =
    let rest = count-once thread xs k (omega arith) at
    (λ i j lt p. once (suc i) (suc j) (omega arith) (omega arith)) in
    let here = one-if-other x thread (λ e. once 0 (suc k) (omega arith) within (e ∙ sym at)) in
    omega (arith, here, rest, count-cons (λ y. eqb y thread) x xs)

lower-suc : (thread : ℕ) (xs : List ℕ)
    → lower (suc thread) xs ≡ lower thread xs + count_of thread xs
lower-suc thread [] = refl
lower-suc thread (x ∷ xs) =
    let rest = lower-suc thread xs in
    let here : one_if (nat_lt x (suc thread)) ≡ one_if (nat_lt x thread) + one_if (eqb x thread) =
    grind (arith, nat_tests) in
    omega (
      arith,
      here,
      rest,
      count-cons (λ y. nat_lt y (suc thread)) x xs,
      count-cons (λ y. nat_lt y thread) x xs,
      count-cons (λ y. eqb y thread) x xs,
    )

-- lists with the same numbers have as many below each
pub lower-same : (xs ys : List ℕ) → ((t : ℕ) → count_of t xs ≡ count_of t ys) → (thread : ℕ)
    → lower thread xs ≡ lower thread ys
lower-same xs ys same zero =
    omega (
      arith,
      count-none (λ y. nat_lt y 0) xs (λ k p. grind (arith, nat_tests)),
      count-none (λ y. nat_lt y 0) ys (λ k p. grind (arith, nat_tests)),
    )
lower-same xs ys same (suc thread) =
    omega (
      arith,
      lower-same xs ys same thread,
      same thread,
      lower-suc thread xs,
      lower-suc thread ys,
    )
