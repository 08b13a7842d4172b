-- A choice whose points are taken down to a bound comes no later in the list, and earlier where one
-- of them was above it.
use Rattle.std.specs.Prelude.{slice_get, map, min}
use Rattle.std.proofs.Common.{◌≡◌, ℕ, zero, suc, ◌+◌, ◌-◌, ◌*◌, ◌/◌, ◌%◌, ◌^◌, ◌<◌, ◌≤◌, Some}
use Rattle.std.proofs.Common.{Option}
use Rattle.std.proofs.Common.{List, [], ◌∷◌, length, refl, sym, ap, subst, ◌∙◌, arith, inl, inr}
use Rattle.std.proofs.Common.{◌⊎◌}
use Rattle.std.proofs.Math.Nat.{div-add-mod, mod-lt, pow-suc}
use Rattle.std.proofs.lemmas.Nat.{div-mul-add, mod-mul-add, mul-add-lt}
use Rattle.std.proofs.Math.Nat.{mul-le-mul_right, min-eq_left, min-eq_right}
use Rattle.std.proofs.lemmas.Bool.{cases_eq, cases_lt}
use Rattle.std.specs.List.{All}
use Rattle.std.proofs.lemmas.List.Elements.{All-head, All-tail}
use Rattle.turn_book.specs.Chances.{threads_below}
use Rattle.choices.specs.Orders.{orders}
use Rattle.choices.specs.PointLists.{IsWithin, pointlists}
use Rattle.choices.proofs.laws.ListedOnce.{all-orders}
use Rattle.sweep.specs.Choices.{choice_of, choices, choice_count}
use Rattle.sweep.specs.declared.choice.Choice.{Choice}
use Rattle.sweep.specs.Weights.{point_weight, weight}
use Rattle.sweep.proofs.Places.{digits, digit-low, some-power, points-get, order-place, list-place}
use Rattle.sweep.proofs.Places.{choice-there, item-at}
use Rattle.sweep.proofs.Weights.{weight-before, weight-at, weight-behind, AreLike}

-- no point above the bound
abbrev pub clip : ℕ → List ℕ → List ℕ
clip t points = map (min t) points

-- where the clipped list stands
abbrev clip_place : ℕ → ℕ → ℕ → ℕ → ℕ
clip_place k zero t place = 0
clip_place k (suc many) t place =
    min (t - 1) (place / k ^ many) * k ^ many + clip_place k many t (place % k ^ many)

min-low : (a b : ℕ) → min a b ≤ b
min-low a b = elim (cases_lt a b) [
  | inl less ↦ omega (arith, min-eq_left {n = a} {m = b} (omega arith), less)
  | inr more ↦ omega (arith, min-eq_right {n = b} {m = a} more)
]

min-bound : (a b : ℕ) → min a b ≤ a
min-bound a b = elim (cases_lt a b) [
  | inl less ↦ omega (arith, min-eq_left {n = a} {m = b} (omega arith))
  | inr more ↦ omega (arith, min-eq_right {n = b} {m = a} more, more)
]

-- a list that stands for none has a point above the bound
above : (k t point : ℕ) → point ≤ k → point_weight k t point ≡ 0 → t < point
above k t point high none = elim (cases_lt t point) [
  | inl less ↦ less
  | inr more ↦ elim (cases_eq point t) [
    | inl same ↦ absurd (omega (arith, weight-at k t point same, none, same, high))
    | inr other ↦ absurd (omega (
      arith,
      weight-before k t point (let l : point < t = omega (arith, more, other) in l),
      none,
    ))
  ]
]

product-none : (a b : ℕ) → a * b ≡ 0 → (a ≡ 0) ⊎ (b ≡ 0)
product-none zero b e = inl refl
product-none (suc a) b e =
    let more : suc a * b ≡ b + a * b = grind arith in inr (omega (arith, more, e))

-- which is above a lower bound, too
pub none-below : (k t low : ℕ) (points : List ℕ) → All (IsWithin k) points → low ≤ t
    → weight k t points ≡ 0 → weight k low points ≡ 0
none-below k t low [] within less none = absurd (omega (arith, none))
none-below k t low (p ∷ points) within less none =
    elim (product-none (point_weight k t p) (weight k t points) none) [
      | inl here ↦
          let high : t < p = above k t p (All-head (IsWithin k) p points within).1 here in
          ap (λ n. n * weight k low points) (weight-behind k low p (omega (arith, less, high)))
          ∙ (let e : 0 * weight k low points ≡ 0 = omega arith in e)
      | inr later ↦
          ap (λ n. point_weight k low p * n)
          (none-below k t low points (All-tail (IsWithin k) p points within) less later)
          ∙ (let e : point_weight k low p * 0 ≡ 0 = omega arith in e)
    ]

module _ (k t : ℕ) (some : 1 ≤ k) (bound : 1 ≤ t) where
  -- one number more
  clip-digit : (q : ℕ) → min (t - 1) q + 1 ≡ min t (q + 1)
  clip-digit q = elim (cases_lt (t - 1) q) [
    | inl less ↦
        omega (
          arith,
          bound,
          less,
          min-eq_left {n = t - 1} {m = q} (omega arith),
          min-eq_left {n = t} {m = q + 1} (omega (arith, less, bound)),
        )
    | inr more ↦
        omega (
          arith,
          min-eq_right {n = q} {m = t - 1} more,
          min-eq_right {n = q + 1} {m = t} (omega (arith, more, bound)),
        )
  ]

  clip-within : (many place : ℕ) → place < k ^ many → clip_place k many t place < k ^ many
  clip-within zero place within = omega (arith, within)
  clip-within (suc many) place within =
      let block = k ^ many in
      let q = place / block in
      let low : min (t - 1) q < k =
      omega (arith, min-low (t - 1) q, digit-low k many place some within) in
      let rest = clip-within many (place % block) (mod-lt place (some-power k many some)) in
      let product : block * k ≡ k ^ suc many = sym (pow-suc k many) in
      omega (
        arith,
        mul-add-lt (min (t - 1) q) block (clip_place k many t (place % block)) k low
            rest,
        product,
      )

  clip-low : (many place : ℕ) → clip_place k many t place ≤ place
  clip-low zero place = omega arith
  clip-low (suc many) place =
      let block = k ^ many in
      let q = place / block in
      let parts : block * q + place % block ≡ place = div-add-mod place block in
      let turned : q * block ≡ block * q = grind arith in
      let front : min (t - 1) q * block ≤ q * block = mul-le-mul_right block (min-low (t - 1) q) in
      omega (arith, parts, turned, front, clip-low many (place % block))

  pub clip-digits : (many place : ℕ) → place < k ^ many
      → digits k many (clip_place k many t place) ≡ clip t (digits k many place)
  clip-digits zero place within = refl
  clip-digits (suc many) place within =
      let block = k ^ many in
      let q = place / block in
      let r = place % block in
      let small : r < block = mod-lt place (some-power k many some) in
      let rest = clip_place k many t r in
      let rest_small : rest < block = clip-within many r small in
      let first : (min (t - 1) q * block + rest) / block ≡ min (t - 1) q =
      div-mul-add (min (t - 1) q) block rest rest_small in
      let last : (min (t - 1) q * block + rest) % block ≡ rest =
      mod-mul-add (min (t - 1) q) block rest rest_small in
      (λ i. (first i + 1) ∷ digits k many (last i))
      ∙ (λ i. clip-digit q i ∷ clip-digits many r small i)

  clip-less : (many place : ℕ) → place < k ^ many → weight k t (digits k many place) ≡ 0
      → clip_place k many t place < place
  clip-less zero place within none = absurd (omega (arith, none))
  clip-less (suc many) place within none =
      let block = k ^ many in
      let q = place / block in
      let r = place % block in
      let low : q < k = digit-low k many place some within in
      let small : r < block = mod-lt place (some-power k many some) in
      let parts : block * q + r ≡ place = div-add-mod place block in
      let turned : q * block ≡ block * q = grind arith in
      elim (product-none (point_weight k t (q + 1)) (weight k t (digits k many r)) none) [
        | inl here ↦
            let high : t < q + 1 = above k t (q + 1) (omega (arith, low)) here in
            let is : min (t - 1) q ≡ t - 1 =
            min-eq_left {n = t - 1} {m = q} (omega (arith, high)) in
            let front : suc (t - 1) * block ≤ q * block =
            mul-le-mul_right block (let l : suc (t - 1) ≤ q = omega (arith, high, bound) in l) in
            let product : suc (t - 1) * block ≡ block + (t - 1) * block = grind arith in
            let first : min (t - 1) q * block ≡ (t - 1) * block = ap (λ n. n * block) is in
            omega (arith, parts, turned, front, product, first, clip-within many r small)
        | inr later ↦
            let front : min (t - 1) q * block ≤ q * block =
            mul-le-mul_right block (min-low (t - 1) q) in
            omega (arith, parts, turned, front, clip-less many r small later)
      ]

  -- a clipped list of points in 1..k stands for some
  some-point : (point : ℕ) → point ≤ t → point ≤ k → 1 ≤ point_weight k t point
  some-point point low high = elim (cases_eq point t) [
    | inl same ↦ omega (arith, weight-at k t point same, same, high)
    | inr other ↦
        omega (arith, weight-before k t point (let l : point < t = omega (arith, low, other) in l))
  ]

  some-product : (a b : ℕ) → 1 ≤ a → 1 ≤ b → 1 ≤ a * b
  some-product zero b a_some b_some = absurd (omega (arith, a_some))
  some-product (suc a) b a_some b_some =
      let more : suc a * b ≡ b + a * b = grind arith in omega (arith, more, b_some)

  clip-weight : (many place : ℕ) → place < k ^ many
      → 1 ≤ weight k t (clip t (digits k many place))
  clip-weight zero place within = omega arith
  clip-weight (suc many) place within =
      let block = k ^ many in
      let q = place / block in
      let r = place % block in
      let low : q < k = digit-low k many place some within in
      let small : r < block = mod-lt place (some-power k many some) in
      some-product (point_weight k t (min t (q + 1))) (weight k t (clip t (digits k many r)))
      (some-point (min t (q + 1)) (min-bound t (q + 1))
      (omega (arith, min-low t (q + 1), low)))
      (clip-weight many r small)

-- a clipped list is like the list, and the list like it
pub like-clip : (t : ℕ) (points : List ℕ) → AreLike t points (clip t points)
like-clip t [] = tt
like-clip t (p ∷ points) = (
  (
    λ less. min-eq_right {n = p} {m = t} (omega (arith, less)),
    λ more. omega (arith, min-eq_left {n = t} {m = p} more),
  ),
  like-clip t points,
)

pub clip-like : (t : ℕ) (points : List ℕ) → AreLike t (clip t points) points
clip-like t [] = tt
clip-like t (p ∷ points) = (
  (
    λ less. elim (cases_lt p t) [
      | inl low ↦ sym (min-eq_right {n = p} {m = t} (omega (arith, low)))
      | inr high ↦ absurd (omega (arith, min-eq_left {n = t} {m = p} high, less))
    ],
    λ more. omega (arith, more, min-low t p),
  ),
  clip-like t points,
)

-- ---- the choice at a place, clipped
pub record Clipped (threads k many t place : ℕ) (choice : Choice) : Type 0 where
  pub place' : ℕ
  pub low : place' ≤ place
  pub at : ◌≡◌ {A = Option Choice} (slice_get (choices threads k many) place')
      (Some (choice_of choice.order (clip t choice.points)))
  pub stands : 1 ≤ weight k t (clip t choice.points)
  pub less : weight k t choice.points ≡ 0 → place' < place

pub clipped : (threads k many t place : ℕ) (choice : Choice) → 1 ≤ k → 1 ≤ t
    → slice_get (choices threads k many) place ≡ Some choice
    → place < choice_count threads k many → Clipped threads k many t place choice
clipped threads k many t place choice some bound at within =
    let block = k ^ many in
    let q = place / block in
    let r = place % block in
    let os = orders (threads_below threads) in
    let in_orders : q < length os =
    omega (arith, order-place threads k many place some within, (all-orders threads).many_items) in
    let order = item-at os q in_orders in
    let small : r < block = list-place threads k many place some within in
    let list = digits k many r in
    let there = choice-there threads k many place some within block order.0 list refl order.1
    (points-get k many r some small) in
    let both : ◌≡◌ {A = Option Choice} (Some (choice_of order.0 list)) (Some choice) =
    sym there ∙ at in
    let same : choice_of order.0 list ≡ choice = cc in
    let r' = clip_place k many t r in
    let small' : r' < block = clip-within k t some bound many r small in
    let place' = q * block + r' in
    let parts : block * q + r ≡ place = div-add-mod place block in
    let turned : q * block ≡ block * q = grind arith in
    let within' : place' < choice_count threads k many =
    omega (arith, parts, turned, clip-low k t some bound many r, within) in
    let first : place' / block ≡ q = div-mul-add q block r' small' in
    let last : place' % block ≡ r' = mod-mul-add q block r' small' in
    let O : ℕ → Type 0 = λ n. slice_get os n ≡ Some order.0 in
    let L : ℕ → Type 0 = λ n. slice_get (pointlists k many) n ≡ Some (clip t list) in
    let moved = choice-there threads k many place' some within' block order.0 (clip t list) refl
    (subst O (sym first) order.1)
    (subst L (sym last) (points-get k many r' some small'
    ∙ ap (λ l. Some l) (clip-digits k t some bound many r small))) in
    record {
      place' = place';
      low = omega (arith, parts, turned, clip-low k t some bound many r);
      at = moved ∙ ap (λ (c : Choice). Some (choice_of c.order (clip t c.points))) same;
      stands =
          subst (λ (c : Choice). 1 ≤ weight k t (clip t c.points)) same
          (clip-weight k t some bound many r small);
      less = λ none.
          let own : weight k t list ≡ 0 =
          ap (λ (c : Choice). weight k t c.points) same ∙ none in
          omega (arith, parts, turned, clip-less k t some bound many r small own);
    }
