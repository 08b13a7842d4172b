-- A thread's own steps in a schedule, and the moments that are its steps.
use Rattle.std.proofs.Common.{◌≡◌, ℕ, zero, suc, ◌+◌, ◌<◌, ◌≤◌, Bool, true, false, cond, ◌&&◌, eqb}
use Rattle.std.proofs.Common.{List, [], ◌∷◌, ◌++◌, length, take, refl, ap, ◌∙◌, arith, inl, inr}
use Rattle.std.proofs.Common.{eqb-true}
use Rattle.std.specs.List.{count_by}
use Rattle.std.proofs.lemmas.Bool.{cases_lt, cases_eq, and_parts}
use Rattle.std.proofs.lemmas.List.{take-append-le}
use Rattle.std.proofs.lemmas.List.Sums.{sum_by-cons}
use Rattle.rank_now.specs.declared.moment.Moment.{Moment}
use Rattle.rank_now.specs.Positions.{passes_at}
use Rattle.rank_now.specs.Rank.{own_steps, is_moment}
use Rattle.rank_now.proofs.laws.Positions.{passes_at-append}

abbrev one_if : Bool → ℕ
one_if b = cond b 1 0

abbrev own : ℕ → List ℕ → ℕ
own t xs = count_by (λ other. eqb other t) xs

-- one more step in front
own-cons : (t x : ℕ) (xs : List ℕ) → own t (x ∷ xs) ≡ one_if (eqb x t) + own t xs
own-cons t x xs = sum_by-cons (λ other. one_if (eqb other t)) x xs

-- In more of the schedule's first steps the thread took no fewer.
pub own-rises : (t : ℕ) (xs : List ℕ) (j k : ℕ) → j ≤ k → own t (take j xs) ≤ own t (take k xs)
own-rises t [] zero zero le = omega arith
own-rises t [] zero (suc k) le = omega arith
own-rises t [] (suc j) zero le = absurd (omega arith)
own-rises t [] (suc j) (suc k) le = omega arith
own-rises t (x ∷ xs) zero zero le = omega arith
own-rises t (x ∷ xs) zero (suc k) le = let none : own t [] ≡ 0 = refl in omega arith
own-rises t (x ∷ xs) (suc j) zero le = absurd (omega arith)
own-rises t (x ∷ xs) (suc j) (suc k) le =
    let rest = own-rises t xs j k (omega arith) in
    let a = own-cons t x (take j xs) in
    let b = own-cons t x (take k xs) in
    omega arith

-- A step that the thread took is one more of its own.
pub own-step : (t : ℕ) (xs : List ℕ) (k : ℕ) → passes_at (λ other. eqb other t) xs (suc k) ≡ true
    → own t (take (suc k) xs) ≡ own t (take k xs) + 1
own-step t [] k passes = absurd (let b : false ≡ true = passes in cc)
own-step t (x ∷ xs) zero passes =
    let a = own-cons t x (take zero xs) in
    let one : one_if (eqb x t) ≡ 1 = ap (λ b. one_if b) passes in
    let none : own t (take zero xs) ≡ 0 = refl in
    let nought : own t (take zero (x ∷ xs)) ≡ 0 = refl in
    omega arith
own-step t (x ∷ xs) (suc k) passes =
    let rest = own-step t xs k passes in
    let a = own-cons t x (take (suc k) xs) in
    let b = own-cons t x (take k xs) in
    omega arith

-- ---- moments
before-not : (schedule : List ℕ) (moment : Moment) (first second : ℕ) → first < second
    → is_moment schedule first moment ≡ true → is_moment schedule second moment ≡ true → ⊥
before-not schedule moment first zero lt a b = absurd (omega arith)
before-not schedule moment first (suc k) lt a b =
    let t = moment.thread in
    let x = and_parts (passes_at (λ other. eqb other t) schedule first)
    (eqb (own_steps schedule t first) moment.number) a in
    let y = and_parts (passes_at (λ other. eqb other t) schedule (suc k))
    (eqb (own_steps schedule t (suc k)) moment.number) b in
    let early : own_steps schedule t first ≡ moment.number =
    eqb-true (own_steps schedule t first) moment.number x.1 in
    let late : own_steps schedule t (suc k) ≡ moment.number =
    eqb-true (own_steps schedule t (suc k)) moment.number y.1 in
    let more = own-step t schedule k y.0 in
    let rises = own-rises t schedule first k (omega arith) in
    omega arith

-- A moment is one step at most.
pub moment-once : (schedule : List ℕ) (moment : Moment) (first second : ℕ)
    → is_moment schedule first moment ≡ true → is_moment schedule second moment ≡ true
    → first ≡ second
moment-once schedule moment first second a b = elim (cases_eq first second) [
  | inl e ↦ e
  | inr ne ↦ elim (cases_lt first second) [
    | inl lt ↦ absurd (before-not schedule moment first second lt a b)
    | inr ge ↦ absurd (before-not schedule moment second first (omega arith) b a)
  ]
]

-- Further steps change nothing of whether a moment is one of the earlier ones.
pub is_moment-append : (taken rest : List ℕ) (step : ℕ) (moment : Moment) → step ≤ length taken
    → is_moment (taken ++ rest) step moment ≡ is_moment taken step moment
is_moment-append taken rest step moment within =
    let t = moment.thread in
    ap (λ b. b && eqb (own_steps (taken ++ rest) t step) moment.number)
    (passes_at-append (λ other. eqb other t) taken rest step within)
    ∙ ap (λ l. passes_at (λ other. eqb other t) taken step
    && eqb (count_by (λ other. eqb other t) l) moment.number)
    (take-append-le step taken rest within)
