-- Lists of points of which many lead to one run: their sum is that over those lists alone whose
-- points are no later than the run's last step, each taken as often as there are lists like it.
use Rattle.std.specs.Prelude.{sum_by}
use Rattle.std.specs.List.{range_with_len}
use Rattle.std.proofs.Common.{◌≡◌, ℕ, zero, suc, ◌+◌, ◌-◌, ◌*◌, ◌<◌, ◌≤◌, cond, eqb, true}
use Rattle.std.proofs.Common.{false, List, [], ◌∷◌, refl, sym, ap, subst, ◌∙◌, arith, inl, inr}
use Rattle.std.proofs.Common.{eq-eqb, ne_eqb, nat_lt}
use Rattle.std.proofs.lemmas.Bool.{cases_eq, cases_lt}
use Rattle.std.proofs.lemmas.Bool.Decides.{nat_tests}
use Rattle.std.proofs.lemmas.List.Sums.{sum_by-cons}
use Rattle.choices.specs.PointLists.{pointlists}
use Rattle.sweep.specs.Weights.{point_weight, weight}
use Rattle.sweep.proofs.Lists.{sum-zero, sum-both, sum-same, sum-flat}

-- ---- sums

sum-agree : {X : Type 0} (f g : X → ℕ) (xs : List X) → ((x : X) → f x ≡ g x)
    → sum_by f xs ≡ sum_by g xs
sum-agree f g xs each = sum-same f g xs (λ k x at. each x)

sum-turned : {X Y : Type 0} (f : X → Y → ℕ) (xs : List X) (ys : List Y)
    → sum_by (λ x. sum_by (f x) ys) xs ≡ sum_by (λ y. sum_by (λ x. f x y) xs) ys
sum-turned f [] ys = sym (sum-zero ys)
sum-turned f (x ∷ xs) ys =
    sum_by-cons (λ x. sum_by (f x) ys) x xs
    ∙ ap (λ n. sum_by (f x) ys + n) (sum-turned f xs ys)
    ∙ sym (sum-both (f x) (λ y. sum_by (λ x. f x y) xs) ys)
    ∙ sum-agree (λ y. f x y + sum_by (λ x. f x y) xs) (λ y. sum_by (λ x. f x y) (x ∷ xs)) ys
    (λ y. sym (sum_by-cons (λ x. f x y) x xs))

-- ---- one point

pub weight-before : (k top p : ℕ) → p < top → point_weight k top p ≡ 1
weight-before k top p less =
    let is : nat_lt p top ≡ true = grind (arith, nat_tests) in
    ap (λ b. cond b 1 (cond (eqb p top) (suc k - top) 0)) is

pub weight-at : (k top p : ℕ) → p ≡ top → point_weight k top p ≡ suc k - top
weight-at k top p same =
    let is : nat_lt p top ≡ false = grind (arith, nat_tests) in
    ap (λ b. cond b 1 (cond (eqb p top) (suc k - top) 0)) is
    ∙ ap (λ b. cond b (suc k - top) 0) (eq-eqb p top same)

pub weight-behind : (k top p : ℕ) → top < p → point_weight k top p ≡ 0
weight-behind k top p more =
    let is : nat_lt p top ≡ false = grind (arith, nat_tests) in
    ap (λ b. cond b 1 (cond (eqb p top) (suc k - top) 0)) is
    ∙ ap (λ b. cond b (suc k - top) 0) (ne_eqb p top (λ e. omega (arith, e, more)))

pub weight-few : (k top p : ℕ) → 1 ≤ p → p ≤ k → point_weight k top p ≤ k
weight-few k top p some few = elim (cases_lt p top) [
  | inl less ↦ omega (arith, weight-before k top p less, some, few)
  | inr more ↦ elim (cases_eq p top) [
    | inl same ↦ omega (arith, weight-at k top p same, same, some, few)
    | inr other ↦
        omega (arith, weight-behind k top p (let l : top < p = omega (arith, more, other) in l))
  ]
]

-- ---- lists that are alike

-- the same points below a top, and others from it on
abbrev pub AreLike : ℕ → List ℕ → List ℕ → Type 0
AreLike t [] [] = Unit {0}
AreLike t [] (q ∷ qs) = ⊥
AreLike t (p ∷ ps) [] = ⊥
AreLike t (p ∷ ps) (q ∷ qs) = ((p < t → q ≡ p) × (t ≤ p → t ≤ q)) × AreLike t ps qs

module _ {R : Type 0} (top : R → ℕ) (some : (r : R) → 1 ≤ top r) where
  -- points from the top of what one leads to lead to the same
  abbrev Settles : (ℕ → R) → Type 0
  Settles g = (p q : ℕ) → top (g p) ≤ p → top (g p) ≤ q → g q ≡ g p

  -- all points from one on that lead to the same
  rest-sum : (k : ℕ) (g : ℕ → R) (h : R → ℕ) (r : R) (from many : ℕ) → top r < from
      → ((q : ℕ) → from ≤ q → g q ≡ r)
      → (sum_by (λ p. h (g p)) (range_with_len from many) ≡ many * h r)
      × (sum_by (λ p. point_weight k (top (g p)) p * h (g p)) (range_with_len from many) ≡ 0)
  rest-sum k g h r from zero low all = (omega arith, refl)
  rest-sum k g h r from (suc many) low all =
      let here = all from (omega arith) in
      let more = rest-sum k g h r (from + 1) many (omega (arith, low))
      (λ q le. all q (omega (arith, le))) in
      let one : h (g from) ≡ h r = ap h here in
      let none : point_weight k (top (g from)) from * h (g from) ≡ 0 =
      ap (λ t. point_weight k (top t) from * h (g from)) here
      ∙ ap (λ n. n * h (g from)) (weight-behind k (top r) from low)
      ∙ (let e : 0 * h (g from) ≡ 0 = omega arith in e) in
      let product : suc many * h r ≡ h r + many * h r = grind arith in (
        omega (
          arith,
          sum_by-cons (λ p. h (g p)) from (range_with_len (from + 1) many),
          one,
          more.0,
          product,
        ),
        omega (
          arith,
          sum_by-cons (λ p. point_weight k (top (g p)) p * h (g p)) from
              (range_with_len (from + 1) many),
          none,
          more.1,
        ),
      )

  point-sum : (k : ℕ) (g : ℕ → R) (h : R → ℕ) → Settles g → (from many : ℕ) → from + many ≡ suc k
      → 1 ≤ from → ((p : ℕ) → 1 ≤ p → p < from → p < top (g p))
      → sum_by (λ p. h (g p)) (range_with_len from many)
      ≡ sum_by (λ p. point_weight k (top (g p)) p * h (g p)) (range_with_len from many)
  point-sum k g h settles from zero whole low before = refl
  point-sum k g h settles from (suc many) whole low before =
      elim (cases_lt from (top (g from))) [
        | inl less ↦
            let one : point_weight k (top (g from)) from * h (g from) ≡ h (g from) =
            ap (λ n. n * h (g from)) (weight-before k (top (g from)) from less)
            ∙ (let e : 1 * h (g from) ≡ h (g from) = omega arith in e) in
            let rest = point-sum k g h settles (from + 1) many (omega (arith, whole))
            (omega arith) (λ p some_p less_p. elim (cases_eq p from) [
              | inl e ↦ subst (λ q. q < top (g q)) (sym e) less
              | inr ne ↦ before p some_p (omega arith)
            ]) in
            omega (
              arith,
              sum_by-cons (λ p. h (g p)) from (range_with_len (from + 1) many),
              sum_by-cons (λ p. point_weight k (top (g p)) p * h (g p)) from
                  (range_with_len (from + 1) many),
              one,
              rest,
            )
        | inr settled ↦
            let t = top (g from) in
            let at : t ≡ from = elim (cases_lt t from) [
              | inl less ↦
                  let same : g t ≡ g from = settles from t settled (omega arith) in
                  absurd (omega (arith, before t (some (g from)) less, ap top same))
              | inr ge ↦ omega arith
            ] in
            let rest = rest-sum k g h (g from) (from + 1) many (omega (arith, at))
            (λ q le. settles from q settled (omega (arith, at, le))) in
            let often : point_weight k t from ≡ suc many =
            weight-at k t from (sym at) ∙ (let e : suc k - t ≡ suc many =
            omega (arith, at, whole) in
            e) in
            let first : point_weight k t from * h (g from) ≡ suc many * h (g from) =
            ap (λ n. n * h (g from)) often in
            let product : suc many * h (g from) ≡ h (g from) + many * h (g from) = grind arith in
            omega (
              arith,
              sum_by-cons (λ p. h (g p)) from (range_with_len (from + 1) many),
              sum_by-cons (λ p. point_weight k (top (g p)) p * h (g p)) from
                  (range_with_len (from + 1) many),
              first,
              product,
              rest.0,
              rest.1,
            )
      ]

  -- ---- lists of points

  like-itself : (t : ℕ) (ps : List ℕ) → AreLike t ps ps
  like-itself t [] = tt
  like-itself t (p ∷ ps) = (((λ l. refl), (λ l. l)), like-itself t ps)

  -- lists that are like one lead to the same
  abbrev pub Repeats : (List ℕ → R) → Type 0
  Repeats runs = (ps qs : List ℕ) → AreLike (top (runs ps)) ps qs → runs qs ≡ runs ps

  pub weighted : (k many : ℕ) (runs : List ℕ → R) (h : R → ℕ) → Repeats runs
      → sum_by (λ points. h (runs points)) (pointlists k many)
      ≡ sum_by (λ points. weight k (top (runs points)) points * h (runs points))
      (pointlists k many)
  weighted k zero runs h repeats =
      let e : h (runs []) ≡ 1 * h (runs []) = omega arith in
      omega (
        arith,
        sum_by-cons (λ points. h (runs points)) [] [],
        sum_by-cons (λ points. weight k (top (runs points)) points * h (runs points)) [] [],
        e,
      )
  weighted k (suc many) runs h repeats =
      let lists = pointlists k many in
      let range = range_with_len 1 k in
      let taken : ℕ → List ℕ → ℕ = λ p rest.
      weight k (top (runs (p ∷ rest))) rest * h (runs (p ∷ rest)) in
      let whole : List ℕ → ℕ = λ points.
      weight k (top (runs points)) points * h (runs points) in
      sum-flat (λ points. h (runs points)) (λ p points. p ∷ points) range lists
      ∙ sum-agree (λ p. sum_by (λ rest. h (runs (p ∷ rest))) lists)
      (λ p. sum_by (taken p) lists) range
      (λ p. weighted k many (λ rest. runs (p ∷ rest)) h
      (λ ps qs like. repeats (p ∷ ps) (p ∷ qs) (((λ l. refl), (λ l. l)), like)))
      ∙ sum-turned taken range lists
      ∙ sum-agree (λ rest. sum_by (λ p. taken p rest) range)
      (λ rest. sum_by (λ p. whole (p ∷ rest)) range) lists
      (λ rest.
      point-sum k (λ p. runs (p ∷ rest)) (λ r. weight k (top r) rest * h r)
      (λ p q a b. repeats (p ∷ rest) (q ∷ rest)
      (((λ l. absurd (omega (arith, l, a))), (λ l. b)), like-itself (top (runs (p ∷ rest))) rest))
      1 k (omega arith) (omega arith) (λ p one less. absurd (omega (arith, one, less)))
      ∙ sum-agree (λ p. point_weight k (top (runs (p ∷ rest))) p
      * (weight k (top (runs (p ∷ rest))) rest * h (runs (p ∷ rest))))
      (λ p. whole (p ∷ rest)) range
      (λ p. regrouped (point_weight k (top (runs (p ∷ rest))) p)
      (weight k (top (runs (p ∷ rest))) rest) (h (runs (p ∷ rest)))))
      ∙ sym (sum-turned (λ p rest. whole (p ∷ rest)) range lists)
      ∙ sym (sum-flat whole (λ p points. p ∷ points) range lists)
    where
      regrouped : (a b c : ℕ) → a * (b * c) ≡ a * b * c
      regrouped a b c = grind arith
