-- The last access of each thread and kind is enough to find the races with a step.
use Rattle.std.proofs.Common.{◌≡◌, ◌≢◌, ℕ, zero, suc, ◌+◌, ◌<◌, ◌≤◌, Bool, true, false, cond, eqb}
use Rattle.std.proofs.Common.{◌&&◌, Option, Some, None, refl, sym, ap, subst, ◌∙◌, arith, inl, inr}
use Rattle.std.proofs.Common.{eq-eqb}
use Rattle.std.proofs.lemmas.Bool.{cases_lt, cases_eq, cases_Bool, both_ways, and_parts, eqb-true}
use Rattle.std.proofs.lemmas.Bool.{and_from}
use Rattle.hb_race.specs.declared.access.AccessKind.{AccessKind}
use Rattle.hb_race.specs.declared.access.AccessKind.TheVariants.{PlainRead, PlainWrite, AtomicRead}
use Rattle.hb_race.specs.declared.access.AccessKind.TheVariants.{AtomicWrite}
use Rattle.hb_race.specs.Order.{Steps, HasLines, Before}
use Rattle.hb_race.specs.Clocks.{own, stamp}
use Rattle.hb_race.specs.Accesses.{same_kind, conflict}
use Rattle.hb_race.specs.Lasts.{Accesses, StepsRace, is_of, last, IsFlagged, NumbersRace}
use Rattle.hb_race.proofs.Chains.{edge-before, before-trans, own-edge}
use Rattle.hb_race.proofs.Meaning.{told}

-- ---- kinds
pub same_kind-true : (a b : AccessKind) → same_kind a b ≡ true → a ≡ b
same_kind-true PlainRead PlainRead e = refl
same_kind-true PlainWrite PlainWrite e = refl
same_kind-true AtomicRead AtomicRead e = refl
same_kind-true AtomicWrite AtomicWrite e = refl
same_kind-true a b e = absurd cc

pub same_kind-refl : (a : AccessKind) → same_kind a a ≡ true
same_kind-refl PlainRead = refl
same_kind-refl PlainWrite = refl
same_kind-refl AtomicRead = refl
same_kind-refl AtomicWrite = refl

is_of-true : (o : Option AccessKind) (k : AccessKind) → is_of o k ≡ true → o ≡ Some k
is_of-true None k e = absurd cc
is_of-true (Some a) k e = ap Some (same_kind-true a k e)

-- ---- the last one
pub last-now : {O : Type 0} (s : Steps O) (access : Accesses) (u : ℕ) (k : AccessKind) (n : ℕ)
    (b : Bool) → (eqb (s.thread n) u && is_of (access n) k) ≡ b
    → last s access u k (suc n) ≡ cond b (Some n) (last s access u k n)
last-now s access u k n b e = ap (λ c. cond c (Some n) (last s access u k n)) e

pub last-is : {O : Type 0} (s : Steps O) (access : Accesses) (u : ℕ) (k : AccessKind) (n l : ℕ)
    → last s access u k n ≡ Some l → (l < n) × (s.thread l ≡ u) × (access l ≡ Some k)
last-is s access u k zero l e = absurd cc
last-is s access u k (suc n) l e = elim (cases_Bool (eqb (s.thread n) u && is_of (access n) k)) [
  | inl here ↦
      let parts = and_parts (eqb (s.thread n) u) (is_of (access n) k) here in
      let now = last-now s access u k n true here in
      let same : n ≡ l = cc in (
        omega arith,
        subst (λ x. s.thread x ≡ u) same (eqb-true (s.thread n) u parts.0),
        subst (λ x. access x ≡ Some k) same (is_of-true (access n) k parts.1),
      )
  | inr not ↦
      let rest = last-is s access u k n l (sym (last-now s access u k n false not) ∙ e) in
      ((let low = rest.0 in omega arith), rest.1, rest.2)
]

below : (i n : ℕ) → i < suc n → i ≢ n → i < n
below i n low apart = elim (cases_lt i n) [ inl h ↦ h | inr h ↦ absurd (apart (omega arith)) ]

last-greatest : {O : Type 0} (s : Steps O) (access : Accesses) (u : ℕ) (k : AccessKind) (n i : ℕ)
    → i < n → s.thread i ≡ u → access i ≡ Some k
    → (l : ℕ) × (last s access u k n ≡ Some l) × (i ≤ l)
last-greatest s access u k zero i low own at = absurd (omega arith)
last-greatest s access u k (suc n) i low own at =
    elim (cases_Bool (eqb (s.thread n) u && is_of (access n) k)) [
      | inl here ↦ (n, last-now s access u k n true here, omega arith)
      | inr not ↦ elim (cases_eq i n) [
        | inl same ↦
            let hit : (eqb (s.thread i) u && is_of (access i) k) ≡ true =
            and_from (eqb (s.thread i) u) (is_of (access i) k) (eq-eqb (s.thread i) u own)
            (ap (λ o. is_of o k) at ∙ same_kind-refl k) in
            absurd (both_ways (eqb (s.thread n) u && is_of (access n) k) not
            (subst (λ x. (eqb (s.thread x) u && is_of (access x) k) ≡ true) same hit))
        | inr apart ↦
            let rest = last-greatest s access u k n i (below i n low apart) own at in
            (rest.0, last-now s access u k n false not ∙ rest.1, rest.2)
      ]
    ]

-- ---- races with a step
-- where a later step of the same thread is before j, so is the earlier one
down : {O : Type 0} (s : Steps O) → HasLines s → (i l j : ℕ) → i ≤ l → s.thread i ≡ s.thread l
    → Before s l j → Before s i j
down s lines i l j low same b = elim (cases_eq i l) [
  | inl e ↦ subst (λ x. Before s x j) (sym e) b
  | inr apart ↦ before-trans s i l j
      (edge-before s i l (own-edge s lines i l (below i l (omega arith) apart) same)) b
]

-- a step that races with j lies at or below a last access that is flagged
pub race-flagged : {O : Type 0} (s : Steps O) → HasLines s
    → (access : Accesses) (i j : ℕ) (second : AccessKind) → access j ≡ Some second
    → (race : StepsRace s access i j)
    → (l : ℕ) × (i ≤ l) × IsFlagged s access j race.first second (l + 1)
race-flagged s lines access i j second at race =
    let found = last-greatest s access (s.thread i) race.first j i race.earlier refl
    race.at_first in
    let l = found.0 in
    let facts = last-is s access (s.thread i) race.first j l found.1 in
    let unordered : Before s l j → ⊥ =
    λ b. race.unordered (down s lines i l j found.2 (sym facts.1) b) in
    let untold : stamp s j (s.thread l) < own s l =
    elim (cases_lt (stamp s j (s.thread l)) (own s l)) [
      | inl low ↦ low
      | inr high ↦ absurd (unordered ((told s lines l j facts.0).0 (omega arith)))
    ] in
    let same : race.second ≡ second = (let e = sym race.at_second ∙ at in cc) in (
      l,
      found.2,
      record {
        step = l;
        number_is = refl;
        at_last = subst (λ t. last s access t race.first j ≡ Some l) (sym facts.1) found.1;
        apart = λ e. race.apart (sym facts.1 ∙ e);
        conflicts = subst (λ k. conflict race.first k ≡ true) same race.conflicts;
        untold = untold;
      },
    )

-- and each last access that is flagged races with j
pub flagged-race : {O : Type 0} (s : Steps O) → HasLines s
    → (access : Accesses) (j : ℕ) (first second : AccessKind) (number : ℕ) → access j ≡ Some second
    → IsFlagged s access j first second number → NumbersRace s access j number
flagged-race s lines access j first second number at flagged =
    let l = flagged.step in
    let facts = last-is s access (s.thread l) first j l flagged.at_last in (
      l,
      flagged.number_is,
      record {
        earlier = facts.0;
        apart = flagged.apart;
        first = first;
        second = second;
        at_first = facts.2;
        at_second = at;
        conflicts = flagged.conflicts;
        unordered = λ b. let high = flagged.untold in let low = (told s lines l j facts.0).1 b in
            omega arith;
      },
    )
