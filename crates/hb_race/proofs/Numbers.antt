-- Numbers of own steps, and the greatest of some entries.
use Rattle.std.proofs.Common.{◌≡◌, ℕ, zero, suc, ◌<◌, ◌≤◌, max, cond, List, [], ◌∷◌, refl, sym, ap}
use Rattle.std.proofs.Common.{subst, arith, inl, inr, ◌⊎◌, eq-eqb, ne_eqb}
use Rattle.std.proofs.lemmas.Bool.{cases_lt, cases_eq}
use Rattle.std.proofs.Math.Nat.{le-max_left, le-max_right, zero-max, max-zero}
use Rattle.hb_race.specs.Order.{Steps, Among}
use Rattle.hb_race.specs.Clocks.{own_count, own, greatest_of}

pub max-parts : (k a b : ℕ) → k ≤ max a b → (k ≤ a) ⊎ (k ≤ b)
max-parts zero a b h = inl (omega arith)
max-parts (suc k) zero b h = inr (subst (λ m. suc k ≤ m) (zero-max b) h)
max-parts (suc k) (suc a) zero h = inl (subst (λ m. suc k ≤ m) (max-zero (suc a)) h)
max-parts (suc k) (suc a) (suc b) h = elim (max-parts k a b (omega arith)) [
  | inl l ↦ inl (omega arith)
  | inr r ↦ inr (omega arith)
]

pub max-within : (k a b : ℕ) → a ≤ k → b ≤ k → max a b ≤ k
max-within k a b l r = elim (max-parts (max a b) a b (omega arith)) [
  | inl h ↦ omega arith
  | inr h ↦ omega arith
]

pub number-own : {O : Type 0} (s : Steps O) (u n : ℕ) → s.thread n ≡ u
    → own_count s u (suc n) ≡ suc (own_count s u n)
number-own s u n same =
    ap (λ b. cond b (suc (own_count s u n)) (own_count s u n)) (eq-eqb (s.thread n) u same)

pub number-other : {O : Type 0} (s : Steps O) (u n : ℕ) → (s.thread n ≡ u → ⊥)
    → own_count s u (suc n) ≡ own_count s u n
number-other s u n apart =
    ap (λ b. cond b (suc (own_count s u n)) (own_count s u n)) (ne_eqb (s.thread n) u apart)

pub number-step : {O : Type 0} (s : Steps O) (u n : ℕ) → own_count s u n ≤ own_count s u (suc n)
number-step s u n = elim (cases_eq (s.thread n) u) [
  | inl same ↦ let e = number-own s u n same in omega arith
  | inr apart ↦ let e = number-other s u n apart in omega arith
]

pub number-rises : {O : Type 0} (s : Steps O) (u m n : ℕ) → m ≤ n
    → own_count s u m ≤ own_count s u n
number-rises s u m zero low = let e : m ≡ 0 = omega arith in
    subst (λ k. own_count s u k ≤ 0) (sym e) (omega arith)
number-rises s u m (suc n) low = elim (cases_lt n m) [
  | inl past ↦ let e : m ≡ suc n = omega arith in
      subst (λ k. own_count s u k ≤ own_count s u (suc n)) (sym e) (omega arith)
  | inr within ↦ let a = number-rises s u m n within in let b = number-step s u n in omega arith
]

-- an earlier step's own number is among the numbers that its thread has had
pub own-within : {O : Type 0} (s : Steps O) (i n : ℕ) → i < n → own s i ≤ own_count s (s.thread i) n
own-within s i n low = let e = number-own s (s.thread i) i refl in
    let r = number-rises s (s.thread i) (suc i) n (omega arith) in omega arith

pub taken-from : {O : Type 0} (clock : O → ℕ → ℕ) (u k : ℕ) (os : List O)
    → suc k ≤ greatest_of clock u os → (o : O) × Among os o × (suc k ≤ clock o u)
taken-from clock u k [] h = absurd (omega arith)
taken-from clock u k (o ∷ os) h = elim (max-parts (suc k) (clock o u) (greatest_of clock u os) h) [
  | inl here ↦ (o, inl refl, here)
  | inr there ↦ let rest = taken-from clock u k os there in (rest.0, inr rest.1, rest.2)
]

pub taken-has : {O : Type 0} (clock : O → ℕ → ℕ) (u k : ℕ) (os : List O) (o : O) → Among os o
    → k ≤ clock o u → k ≤ greatest_of clock u os
taken-has clock u k [] o among h = absurd among
taken-has clock u k (x ∷ os) o (inl same) h =
    let l = le-max_left (clock x u) (greatest_of clock u os) in
    let e : clock x u ≡ clock o u = ap (λ y. clock y u) same in omega arith
taken-has clock u k (x ∷ os) o (inr there) h =
    let r = le-max_right (clock x u) (greatest_of clock u os) in
    let t = taken-has clock u k os o there h in omega arith

pub taken-within : {O : Type 0} (clock : O → ℕ → ℕ) (u m : ℕ) (os : List O)
    → ((o : O) → clock o u ≤ m) → greatest_of clock u os ≤ m
taken-within clock u m [] low = omega arith
taken-within clock u m (o ∷ os) low =
    max-within m (clock o u) (greatest_of clock u os) (low o) (taken-within clock u m os low)
