-- What the clocks after n steps mean, by induction on n.
use Rattle.std.proofs.Common.{◌≡◌, ℕ, zero, suc, ◌<◌, ◌≤◌, max, true, false, cond, refl, sym, ap}
use Rattle.std.proofs.Common.{subst, arith, inl, inr, eq-eqb, ne_eqb}
use Rattle.std.proofs.lemmas.Bool.{cases_lt, cases_eq, cases_Bool}
use Rattle.std.proofs.Math.Nat.{le-max_left, le-max_right}
use Rattle.hb_race.specs.Order.{Steps, HasLines, Before, BeforeOrSame}
use Rattle.hb_race.specs.Clocks.{own_count, own, greatest_of, clocks, stamp, Reaches, Mean}
use Rattle.hb_race.specs.Clocks.{OrdersByClocks}
use Rattle.hb_race.proofs.Chains.{edge-before, before-rises, last-edge, same-or-edge, own-edge}
use Rattle.hb_race.proofs.Numbers.{max-parts, max-within, number-own, number-other, number-step}
use Rattle.hb_race.proofs.Numbers.{number-rises, own-within, taken-from, taken-has, taken-within}

-- ---- the clock of a step
pub stamp-own : {O : Type 0} (s : Steps O) (n u : ℕ) → s.thread n ≡ u
    → stamp s n u ≡ suc (own_count s u n)
stamp-own s n u same =
    ap (λ b. cond b (suc (own_count s u n)) (greatest_of (clocks s n) u (s.takes n)))
    (eq-eqb (s.thread n) u same)

stamp-other : {O : Type 0} (s : Steps O) (n u : ℕ) → (s.thread n ≡ u → ⊥)
    → stamp s n u ≡ greatest_of (clocks s n) u (s.takes n)
stamp-other s n u apart =
    ap (λ b. cond b (suc (own_count s u n)) (greatest_of (clocks s n) u (s.takes n)))
    (ne_eqb (s.thread n) u apart)

stamp-within : {O : Type 0} (s : Steps O) (n u : ℕ) → Mean s n → stamp s n u ≤ own_count s u (suc n)
stamp-within s n u mean = elim (cases_eq (s.thread n) u) [
  | inl same ↦ let a = stamp-own s n u same in let b = number-own s u n same in omega arith
  | inr apart ↦
      let a = stamp-other s n u apart in
      let b = number-other s u n apart in
      let c = taken-within (clocks s n) u (own_count s u n) (s.takes n) (λ o. mean.bound o u) in
      omega arith
]

-- what the step has of an earlier one comes by an edge
pub told-before : {O : Type 0} (s : Steps O) → HasLines s → (i n : ℕ) → Mean s n → i < n
    → own s i ≤ stamp s n (s.thread i) → Before s i n
told-before s lines i n mean low h = elim (cases_eq (s.thread n) (s.thread i)) [
  | inl same ↦ edge-before s i n (own-edge s lines i n low (sym same))
  | inr apart ↦
      let e = stamp-other s n (s.thread i) apart in
      let from = taken-from (clocks s n) (s.thread i) (own_count s (s.thread i) i) (s.takes n)
      (omega arith) in
      let r = mean.reach from.0 i low from.2 in
      same-or-edge s i r.0 n r.3 (r.1, from.0, from.1, r.2)
]

-- and what is before it has told
pub before-told : {O : Type 0} (s : Steps O) (i n : ℕ) → Mean s n → Before s i n
    → own s i ≤ stamp s n (s.thread i)
before-told s i n mean b = elim (cases_eq (s.thread n) (s.thread i)) [
  | inl same ↦ let e = stamp-own s n (s.thread i) same in
      let w = own-within s i n (before-rises s i n b) in omega arith
  | inr apart ↦
      let e = stamp-other s n (s.thread i) apart in
      let last = last-edge s i n b.0 b.1 in
      let edge = last.2 in
      let r = mean.reached edge.1 i (before-rises s i n b) (last.0, edge.0, edge.3, last.1) in
      let t = taken-has (clocks s n) (s.thread i) (own s i) (s.takes n) edge.1 edge.2 r in
      omega arith
]

-- ---- one more step
gave : {O : Type 0} (s : Steps O) (n : ℕ) (o : O) (u : ℕ) → s.gives n o ≡ true
    → clocks s (suc n) o u ≡ max (clocks s n o u) (stamp s n u)
gave s n o u e = ap (λ b. cond b (max (clocks s n o u) (stamp s n u)) (clocks s n o u)) e

kept : {O : Type 0} (s : Steps O) (n : ℕ) (o : O) (u : ℕ) → s.gives n o ≡ false
    → clocks s (suc n) o u ≡ clocks s n o u
kept s n o u e = ap (λ b. cond b (max (clocks s n o u) (stamp s n u)) (clocks s n o u)) e

next-bound : {O : Type 0} (s : Steps O) (n : ℕ) → Mean s n → (o : O) (u : ℕ)
    → clocks s (suc n) o u ≤ own_count s u (suc n)
next-bound s n mean o u = elim (cases_Bool (s.gives n o)) [
  | inl gives ↦
      let e = gave s n o u gives in
      let a = mean.bound o u in
      let b = number-step s u n in
      let m = max-within (own_count s u (suc n)) (clocks s n o u) (stamp s n u) (omega arith)
      (stamp-within s n u mean) in
      omega arith
  | inr not ↦ let e = kept s n o u not in let a = mean.bound o u in let b = number-step s u n in
      omega arith
]

-- a step that isn't taken yet has no number in any clock
not-yet : {O : Type 0} (s : Steps O) (n i : ℕ) (o : O) → Mean s n → n ≤ i
    → own s i ≤ clocks s n o (s.thread i) → ⊥
not-yet s n i o mean past h = let a = mean.bound o (s.thread i) in
    let r = number-rises s (s.thread i) n i past in omega arith

later : {O : Type 0} (s : Steps O) (n i : ℕ) (o : O) → Reaches s n i o → Reaches s (suc n) i o
later s n i o r = (r.0, (let l = r.1 in omega arith), r.2, r.3)

next-reach : {O : Type 0} (s : Steps O) → HasLines s → (n : ℕ) → Mean s n → (o : O) (i : ℕ)
    → i < suc n → own s i ≤ clocks s (suc n) o (s.thread i) → Reaches s (suc n) i o
next-reach s lines n mean o i low h = elim (cases_Bool (s.gives n o)) [
  | inl gives ↦
      let e = gave s n o (s.thread i) gives in
      elim (cases_lt i n) [
        | inl within ↦ elim (max-parts (own s i) (clocks s n o (s.thread i))
            (stamp s n (s.thread i)) (omega arith)) [
              | inl old ↦ later s n i o (mean.reach o i within old)
              | inr new ↦ (n, omega arith, gives, inr (told-before s lines i n mean within new))
            ]
        | inr past ↦ (n, omega arith, gives, inl (omega arith))
      ]
  | inr not ↦
      let e = kept s n o (s.thread i) not in
      elim (cases_lt i n) [
        | inl within ↦ later s n i o (mean.reach o i within (omega arith))
        | inr past ↦ absurd (not-yet s n i o mean past (omega arith))
      ]
]

same-or-rises : {O : Type 0} (s : Steps O) (i g : ℕ) → BeforeOrSame s i g → i ≤ g
same-or-rises s i g (inl same) = omega arith
same-or-rises s i g (inr b) = let r = before-rises s i g b in omega arith

-- by whom it is reached: the newest step, or one that was there
next-old : {O : Type 0} (s : Steps O) (n : ℕ) → Mean s n → (o : O) (i : ℕ) (g : ℕ) → g < n
    → s.gives g o ≡ true → BeforeOrSame s i g → own s i ≤ clocks s n o (s.thread i)
next-old s n mean o i g low gives b = let r = same-or-rises s i g b in
    mean.reached o i (omega arith) (g, low, gives, b)

told-new : {O : Type 0} (s : Steps O) (n : ℕ) → Mean s n → (i : ℕ) → BeforeOrSame s i n
    → own s i ≤ stamp s n (s.thread i)
told-new s n mean i (inl same) =
    subst (λ k. own s k ≤ stamp s n (s.thread k)) (sym same)
    (let e = stamp-own s n (s.thread n) refl in omega arith)
told-new s n mean i (inr b) = before-told s i n mean b

next-reached : {O : Type 0} (s : Steps O) (n : ℕ) → Mean s n → (o : O) (i : ℕ)
    → Reaches s (suc n) i o → own s i ≤ clocks s (suc n) o (s.thread i)
next-reached s n mean o i r = elim (cases_lt r.0 n) [
  | inl old ↦
      let h = next-old s n mean o i r.0 old r.2 r.3 in
      elim (cases_Bool (s.gives n o)) [
        | inl gives ↦ let e = gave s n o (s.thread i) gives in
            let l = le-max_left (clocks s n o (s.thread i)) (stamp s n (s.thread i)) in omega arith
        | inr not ↦ let e = kept s n o (s.thread i) not in omega arith
      ]
  | inr new ↦
      let same : r.0 ≡ n = (let l = r.1 in omega arith) in
      let gives : s.gives n o ≡ true = subst (λ g. s.gives g o ≡ true) same r.2 in
      let h = told-new s n mean i (subst (λ g. BeforeOrSame s i g) same r.3) in
      let e = gave s n o (s.thread i) gives in
      let l = le-max_right (clocks s n o (s.thread i)) (stamp s n (s.thread i)) in
      omega arith
]

-- ---- the invariant, and the law
pub mean : {O : Type 0} (s : Steps O) → HasLines s → (n : ℕ) → Mean s n
mean s lines zero = record {
  bound = λ o u. omega arith;
  reach = λ o i low h. absurd (omega arith);
  reached = λ o i low r. absurd (omega arith);
}
mean s lines (suc n) =
    let before = mean s lines n in
    record {
      bound = next-bound s n before;
      reach = next-reach s lines n before;
      reached = λ o i low r. next-reached s n before o i r;
    }

pub told : {O : Type 0} (s : Steps O) → HasLines s → (i j : ℕ) → i < j → OrdersByClocks s i j
told s lines i j low =
    (told-before s lines i j (mean s lines j) low, before-told s i j (mean s lines j))
