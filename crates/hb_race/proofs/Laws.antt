-- What follows from the definitions alone: happens-before is the least transitive relation over the
-- edges, and a run has
-- one list of races.
use Rattle.std.proofs.Common.{◌≡◌, ℕ, zero, suc, ◌+◌, ◌<◌, List, [], ◌∷◌, length, map, get_or, All}
use Rattle.std.proofs.Common.{Contains, refl, sym, ap, subst, ◌∙◌, arith, inl, inr, ◌⊎◌}
use Rattle.std.specs.Prelude.{slice_index}
use Rattle.std.specs.List.Sorted.{IsStrictlyIncreasing}
use Rattle.std.proofs.lemmas.List.{get_or_default, length-map}
use Rattle.pct_ask.specs.declared.event.Event.{Event}
use Rattle.hb_race.specs.declared.race.Race.{Race}
use Rattle.hb_race.specs.HappensBefore.{IsEdge, IsChain, HappensBefore}
use Rattle.hb_race.specs.Races.{IsRace, IsReported, AreRaces}

-- ---- happens-before
chain-after : (events : List Event) (i k j n : ℕ) → HappensBefore events i k → IsChain events k j n
    → HappensBefore events i j
chain-after events i k j zero before e = (suc before.0, (k, before.1, e))
chain-after events i k j (suc n) before c = let near = chain-after events i k c.0 n before c.1 in
    (suc near.0, (c.0, near.1, c.2))

pub edge-before : (events : List Event) (i j : ℕ) → IsEdge events i j → HappensBefore events i j
edge-before events i j e = (0, e)

pub before-transitive : (events : List Event) (i k j : ℕ) → HappensBefore events i k
    → HappensBefore events k j → HappensBefore events i j
before-transitive events i k j before after = chain-after events i k j after.0 before after.1

chain-least : (events : List Event) (R : ℕ → ℕ → Type 0) → ((i j : ℕ) → IsEdge events i j → R i j)
    → ((i k j : ℕ) → R i k → R k j → R i j) → (i j n : ℕ) → IsChain events i j n → R i j
chain-least events R has transitive i j zero e = has i j e
chain-least events R has transitive i j (suc n) c =
    transitive i c.0 j (chain-least events R has transitive i c.0 n c.1) (has c.0 j c.2)

pub before-least : (events : List Event) (R : ℕ → ℕ → Type 0)
    → ((i j : ℕ) → IsEdge events i j → R i j) → ((i k j : ℕ) → R i k → R k j → R i j) → (i j : ℕ)
    → HappensBefore events i j → R i j
before-least events R has transitive i j before =
    chain-least events R has transitive i j before.0 before.1

-- ---- one report for each variable
same-report : (events : List Event) (a b : Race) → a.var ≡ b.var → IsReported events a
    → IsReported events b → a ≡ b
same-report events a b same x y =
    let to = λ (i j : ℕ) (race : IsRace events b.var i j).
    subst (λ v. IsRace events v i j) (sym same) race in
    let back = λ (i j : ℕ) (race : IsRace events a.var i j).
    subst (λ v. IsRace events v i j) same race in
    let low = x.least y.first y.second (to y.first y.second y.races) in
    let high = y.least x.first x.second (back x.first x.second x.races) in
    let second : x.second ≡ y.second = omega arith in
    let up = x.greatest y.first (subst (λ j. IsRace events a.var y.first j) (sym second)
    (to y.first y.second y.races)) in
    let down = y.greatest x.first (subst (λ j. IsRace events b.var x.first j) second
    (back x.first x.second x.races)) in
    let a1 = x.first_number in
    let a2 = x.second_number in
    let b1 = y.first_number in
    let b2 = y.second_number in
    let firsts : a.first ≡ b.first = omega arith in
    let seconds : a.second ≡ b.second = omega arith in
    let make : ℕ → ℕ → ℕ → Race = λ v i j. record { var = v; first = i; second = j } in
    ap (λ v. make v a.first a.second) same ∙ ap (λ i. make b.var i a.second) firsts
    ∙ ap (make b.var b.first) seconds

-- ---- one list of reports
abbrev vars_of : List Race → List ℕ
vars_of races = map (λ race. race.var) races

rest-increasing : (x : ℕ) (xs : List ℕ) → IsStrictlyIncreasing (x ∷ xs) → IsStrictlyIncreasing xs
rest-increasing x xs rising k low =
    let next : suc k + 1 ≡ suc (k + 1) = omega arith in
    subst (λ m. slice_index xs k < slice_index (x ∷ xs) m) next (rising (suc k) (omega arith))

-- the first of an increasing list is below the others
first-least : (x : ℕ) (xs : List ℕ) → IsStrictlyIncreasing (x ∷ xs) → (k : ℕ) → k < length xs
    → x < slice_index xs k
first-least x [] rising k low = absurd (omega arith)
first-least x (y ∷ xs) rising zero low = rising 0 (omega arith)
first-least x (y ∷ xs) rising (suc k) low =
    let here = rising 0 (omega arith) in
    let there = first-least y xs (rest-increasing x (y ∷ xs) rising) k (omega arith) in
    omega arith

contains-above : (x v : ℕ) (xs : List ℕ) → IsStrictlyIncreasing (x ∷ xs) → Contains xs v → x < v
contains-above x v xs rising has =
    let low = first-least x xs rising has.0 has.1 in
    let at : get_or xs has.0 0 ≡ v = get_or_default xs has.0 0 v has.1 ∙ has.2 in
    omega arith

contains-at : (y v : ℕ) (xs : List ℕ) (k : ℕ) → k < length (y ∷ xs) → get_or (y ∷ xs) k v ≡ v
    → (y ≡ v) ⊎ Contains xs v
contains-at y v xs zero low e = inl e
contains-at y v xs (suc k) low e = inr (k, omega arith, e)

contains-cases : (y v : ℕ) (xs : List ℕ) → Contains (y ∷ xs) v → (y ≡ v) ⊎ Contains xs v
contains-cases y v xs has = contains-at y v xs has.0 has.1 has.2

contains-later : (y v : ℕ) (xs : List ℕ) → Contains xs v → Contains (y ∷ xs) v
contains-later y v xs has = (suc has.0, (let low = has.1 in omega arith), has.2)

contains-first : (y : ℕ) (xs : List ℕ) → Contains (y ∷ xs) y
contains-first y xs = (0, omega arith, refl)

contains-none : (v : ℕ) → Contains [] v → ⊥
contains-none v has = let low = has.1 in omega arith

heads-same : (x y : ℕ) (xs ys : List ℕ) → IsStrictlyIncreasing (x ∷ xs)
    → IsStrictlyIncreasing (y ∷ ys) → Contains (y ∷ ys) x → Contains (x ∷ xs) y → x ≡ y
heads-same x y xs ys rising_x rising_y has_x has_y = elim (contains-cases y x ys has_x) [
  | inl same ↦ sym same
  | inr above ↦ elim (contains-cases x y xs has_y) [
    | inl same ↦ same
    | inr below ↦
        let a = contains-above y x ys rising_y above in
        let b = contains-above x y xs rising_x below in
        omega arith
  ]
]

-- what the rest of one list has, the rest of the other has too
rest-has : (x y : ℕ) (xs ys : List ℕ) → x ≡ y → IsStrictlyIncreasing (x ∷ xs)
    → ((v : ℕ) → Contains (x ∷ xs) v → Contains (y ∷ ys) v) → (v : ℕ) → Contains xs v
    → Contains ys v
rest-has x y xs ys same rising has v at =
    elim (contains-cases y v ys (has v (contains-later x v xs at))) [
      | inl here ↦ let above = contains-above x v xs rising at in absurd (omega arith)
      | inr there ↦ there
    ]

rest-all : (P : Race → Type 0) (race : Race) (races : List Race) → All P (race ∷ races)
    → All P races
rest-all P race races all = λ k d low. all (suc k) d (omega arith)

same-lists : (events : List Event) (ones others : List Race) → All (IsReported events) ones
    → All (IsReported events) others → IsStrictlyIncreasing (vars_of ones)
    → IsStrictlyIncreasing (vars_of others)
    → ((v : ℕ) → Contains (vars_of ones) v → Contains (vars_of others) v)
    → ((v : ℕ) → Contains (vars_of others) v → Contains (vars_of ones) v) → ones ≡ others
same-lists events [] [] all_a all_b rising_a rising_b to back = refl
same-lists events [] (b ∷ others) all_a all_b rising_a rising_b to back =
    absurd (contains-none b.var (back b.var (contains-first b.var (vars_of others))))
same-lists events (a ∷ ones) [] all_a all_b rising_a rising_b to back =
    absurd (contains-none a.var (to a.var (contains-first a.var (vars_of ones))))
same-lists events (a ∷ ones) (b ∷ others) all_a all_b rising_a rising_b to back =
    let same = heads-same a.var b.var (vars_of ones) (vars_of others) rising_a rising_b
    (to a.var (contains-first a.var (vars_of ones)))
    (back b.var (contains-first b.var (vars_of others))) in
    let head = same-report events a b same (all_a 0 a (omega arith)) (all_b 0 b (omega arith)) in
    let tail = same-lists events ones others (rest-all (IsReported events) a ones all_a)
    (rest-all (IsReported events) b others all_b)
    (rest-increasing a.var (vars_of ones) rising_a)
    (rest-increasing b.var (vars_of others) rising_b)
    (rest-has a.var b.var (vars_of ones) (vars_of others) same rising_a to)
    (rest-has b.var a.var (vars_of others) (vars_of ones) (sym same) rising_b back) in
    ap (λ race. race ∷ ones) head ∙ ap (λ races. b ∷ races) tail

var-at : (races : List Race) (k : ℕ) (d : Race) → k < length races
    → slice_index (vars_of races) k ≡ (get_or races k d).var
var-at [] k d low = absurd (omega arith)
var-at (race ∷ races) zero d low = refl
var-at (race ∷ races) (suc k) d low = var-at races k d (omega arith)

-- a variable of one list of the run's races is one of the other
both-have : (events : List Event) (ones others : List Race) → AreRaces events ones
    → AreRaces events others → (v : ℕ) → Contains (vars_of ones) v → Contains (vars_of others) v
both-have events ones others a b v has =
    let low : has.0 < length ones = (let l = has.1 in
    let e = length-map ones (λ (race : Race). race.var) in omega arith) in
    let race = get_or ones has.0 (record { var = 0; first = 0; second = 0 }) in
    let reported = a.each has.0 (record { var = 0; first = 0; second = 0 }) low in
    let same : race.var ≡ v = sym (var-at ones has.0 (record { var = 0; first = 0; second = 0 })
    low) ∙ get_or_default (vars_of ones) has.0 0 v has.1 ∙ has.2 in
    b.every v reported.first reported.second
    (subst (λ x. IsRace events x reported.first reported.second) same reported.races)

pub races-unique : (events : List Event) (ones others : List Race) → AreRaces events ones
    → AreRaces events others → ones ≡ others
races-unique events ones others a b =
    same-lists events ones others a.each b.each a.ordered b.ordered
    (both-have events ones others a b) (both-have events others ones b a)
