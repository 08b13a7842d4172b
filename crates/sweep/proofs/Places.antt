-- The choice at a place of the list, and numbers of choices.
use Rattle.std.specs.Prelude.{slice_get, map}
use Rattle.std.specs.List.{flat_map, range_with_len}
use Rattle.std.proofs.Common.{◌≡◌, ℕ, zero, suc, ◌+◌, ◌-◌, ◌*◌, ◌/◌, ◌%◌, ◌^◌, ◌<◌, ◌≤◌, Some, List}
use Rattle.std.proofs.Common.{[], ◌∷◌, ◌++◌, length, refl, sym, ap, subst, ◌∙◌, arith, append_assoc}
use Rattle.std.proofs.Common.{append-nil, Option, None, inl, inr}
use Rattle.std.proofs.Math.Nat.{div-add-mod, div-lt_iff_lt-mul, mod-lt, pow-suc, pow-zero}
use Rattle.std.proofs.Math.Nat.{pow-le-pow_right, mul-le-mul_left, mul-div_cancel}
use Rattle.std.proofs.lemmas.Bool.{cases_lt}
use Rattle.std.proofs.lemmas.List.{length-map}
use Rattle.std.proofs.lemmas.Option.{slice_get_within}
use Rattle.turn_book.specs.Chances.{threads_below}
use Rattle.choices.specs.Orders.{factorial, orders}
use Rattle.choices.specs.PointLists.{pointlists}
use Rattle.choices.proofs.laws.Factorials.{some-orders, fewer-orders}
use Rattle.choices.proofs.laws.OrderLists.{get-left, get-right, get-map}
use Rattle.choices.proofs.laws.Counts.{range-get}
use Rattle.rank_now.specs.Order.{IsOrderOf}
use Rattle.choices.specs.Laws.{ArePoints}
use Rattle.choices.proofs.laws.ListedOnce.{all-orders, all-points, in-append, in-map}
use Rattle.sweep.specs.Choices.{choice_of, choices, choice_count, most_choices, IsCountWithin}
use Rattle.sweep.specs.declared.choice.Choice.{Choice}
use Rattle.sweep.specs.Weights.{point_weight, weight}

-- ---- what stands at a place

pub get-flat : {X Y Z : Type 0} (f : X → Y → Z) (xs : List X) (ys : List Y) (q r : ℕ) (x : X)
    (y : Y) → slice_get xs q ≡ Some x → slice_get ys r ≡ Some y
    → slice_get (flat_map (λ x. map (f x) ys) xs) (q * length ys + r) ≡ Some (f x y)
get-flat f [] ys q r x y at there = absurd cc
get-flat f (z ∷ xs) ys zero r x y at there =
    let same : z ≡ x = cc in
    let block = map (f z) ys in
    let inside : r < length block =
    omega (arith, slice_get_within ys r y there, length-map ys (f z)) in
    ap (slice_get (block ++ flat_map (λ x. map (f x) ys) xs))
    (let e : zero * length ys + r ≡ r = omega arith in e)
    ∙ get-left block (flat_map (λ x. map (f x) ys) xs) r inside
    ∙ get-map (f z) ys r y there
    ∙ ap (λ w. Some (f w y)) same
get-flat f (z ∷ xs) ys (suc q) r x y at there =
    let block = map (f z) ys in
    let long : length block ≡ length ys = length-map ys (f z) in
    let product : suc q * length ys + r ≡ length ys + (q * length ys + r) = grind arith in
    let moved : suc q * length ys + r ≡ length block + (q * length ys + r) =
    omega (arith, product, long) in
    ap (slice_get (block ++ flat_map (λ x. map (f x) ys) xs)) moved
    ∙ get-right block (flat_map (λ x. map (f x) ys) xs) (q * length ys + r)
    ∙ get-flat f xs ys q r x y at there

pub some-power : (k many : ℕ) → 1 ≤ k → 0 < k ^ many
some-power k zero some = omega (arith, pow-zero k)
some-power k (suc many) some =
    omega (arith, pow-suc k many, mul-le-mul_left (k ^ many) some, some-power k many some)

-- the numbers of a list of points, the slowest first
abbrev pub digits : ℕ → ℕ → ℕ → List ℕ
digits k zero place = []
digits k (suc many) place = (place / k ^ many + 1) ∷ digits k many (place % k ^ many)

-- the first number is one of 1..k
pub digit-low : (k many place : ℕ) → 1 ≤ k → place < k ^ suc many → place / k ^ many < k
digit-low k many place some within =
    let product : k ^ suc many ≡ k * k ^ many =
    pow-suc k many ∙ (let e : k ^ many * k ≡ k * k ^ many = grind arith in e) in
    (div-lt_iff_lt-mul (some-power k many some)).1 (omega (arith, product))

pub points-get : (k many place : ℕ) → 1 ≤ k → place < k ^ many
    → slice_get (pointlists k many) place ≡ Some (digits k many place)
points-get k zero place some within =
    ap (slice_get ([] ∷ [])) (let e : place ≡ 0 = omega (arith, pow-zero k) in e)
points-get k (suc many) place some within =
    let block = k ^ many in
    let lists = pointlists k many in
    let q = place / block in
    let r = place % block in
    let low : q < k = digit-low k many place some within in
    let long : length lists ≡ block = (all-points k many).many_items in
    let rest = points-get k many r some (mod-lt place (some-power k many some)) in
    let parts : block * q + r ≡ place = div-add-mod place block in
    let turned : q * block ≡ block * q = grind arith in
    let whole : place ≡ q * length lists + r =
    omega (arith, parts, turned) ∙ ap (λ n. q * n + r) (sym long) in
    ap (slice_get (pointlists k (suc many))) whole
    ∙ get-flat (λ p ps. p ∷ ps) (range_with_len 1 k) lists q r (1 + q) (digits k many r)
    (range-get 1 k q low) rest
    ∙ ap (λ p. Some (p ∷ digits k many r)) (let e : 1 + q ≡ q + 1 = omega arith in e)

-- ---- as the list of points is made

module _ (k points i n rest block : ℕ) (some : 1 ≤ k) (next : points - i ≡ suc n)
    (powered : block ≡ k ^ (points - i)) (low : rest < k ^ (points - i)) where
  abbrev smaller : ℕ
  smaller = block / k

  pub smaller-is : smaller ≡ k ^ n
  smaller-is =
      ap (λ b. b / k) (powered ∙ ap (λ m. k ^ m) next ∙ pow-suc k n)
      ∙ mul-div_cancel (k ^ n) some

  pub some-smaller : 0 < smaller
  some-smaller = omega (arith, smaller-is, some-power k n some)

  pub digit-within : rest / smaller < k
  digit-within =
      let P : ℕ → Type 0 = λ m. rest < k ^ m in
      let Q : ℕ → Type 0 = λ b. rest / b < k in
      subst Q (sym smaller-is) (digit-low k n rest some (subst P next low))

  module _ (after : points - (i + 1) ≡ n) where
    pub next-block : smaller ≡ k ^ (points - (i + 1))
    next-block = smaller-is ∙ ap (λ m. k ^ m) (sym after)

    pub next-rest : rest % smaller < k ^ (points - (i + 1))
    next-rest =
        let P : ℕ → Type 0 = λ b. rest % smaller < b in
        subst P next-block (mod-lt rest some-smaller)

    pub next-list : (place : ℕ) (list pushed : List ℕ)
        → list ++ digits k (points - i) rest ≡ digits k points place
        → pushed ≡ list ++ (rest / smaller + 1) ∷ []
        → pushed ++ digits k (points - (i + 1)) (rest % smaller) ≡ digits k points place
    next-list place list pushed so_far is =
        let F : ℕ → List ℕ = λ b.
        (list ++ (rest / b + 1) ∷ []) ++ digits k n (rest % b) in
        ap (λ l. l ++ digits k (points - (i + 1)) (rest % smaller)) is
        ∙ ap (λ m. (list ++ (rest / smaller + 1) ∷ []) ++ digits k m (rest % smaller)) after
        ∙ ap F smaller-is
        ∙ append_assoc list ((rest / k ^ n + 1) ∷ []) (digits k n (rest % k ^ n))
        ∙ ap (λ m. list ++ digits k m rest) (sym next)
        ∙ so_far

    -- the same of the weight of a list
    pub next-weight : (long weighed whole : ℕ)
        → weighed * weight k long (digits k (points - i) rest) ≡ whole
        → weighed * point_weight k long (rest / smaller + 1)
        * weight k long (digits k (points - (i + 1)) (rest % smaller)) ≡ whole
    next-weight long weighed whole so_far =
        let F : ℕ → ℕ = λ b.
        weighed * point_weight k long (rest / b + 1) * weight k long (digits k n (rest % b)) in
        ap (λ m. weighed * point_weight k long (rest / smaller + 1)
        * weight k long (digits k m (rest % smaller))) after
        ∙ ap F smaller-is
        ∙ regrouped weighed (point_weight k long (rest / k ^ n + 1))
        (weight k long (digits k n (rest % k ^ n)))
        ∙ ap (λ m. weighed * weight k long (digits k m rest)) (sym next)
        ∙ so_far
      where
        regrouped : (a b c : ℕ) → a * b * c ≡ a * (b * c)
        regrouped a b c = grind arith

pub list-there : (k points i place rest : ℕ) (list : List ℕ) → 1 ≤ k → place < k ^ points
    → points - i ≡ 0 → list ++ digits k (points - i) rest ≡ digits k points place
    → slice_get (pointlists k points) place ≡ Some list
list-there k points i place rest list some within none made =
    points-get k points place some within
    ∙ ap (λ l. Some l) (sym made ∙ ap (λ m. list ++ digits k m rest) none ∙ append-nil list)

-- ---- the numbers of choices

pub more-power : (k i more : ℕ) → 1 ≤ k → i ≤ more → k ^ i ≤ k ^ more
more-power k i more some within = pow-le-pow_right {n = k} some {i = i} {j = more} within

pub power-next : (k i : ℕ) → k ^ (i + 1) ≡ k ^ i * k
power-next k i =
    ap (λ m. k ^ m) (let e : i + 1 ≡ suc i = omega arith in e) ∙ pow-suc k i

-- the orders are no more than the choices, and so are the lists of points
pub orders-fit : (threads k many : ℕ) → 1 ≤ k → factorial threads ≤ choice_count threads k many
orders-fit threads k many some =
    let one : factorial threads * 1 ≤ factorial threads * k ^ many =
    mul-le-mul_left (factorial threads) (some-power k many some) in
    omega (arith, one)

pub lists-fit : (threads k many : ℕ) → k ^ many ≤ choice_count threads k many
lists-fit threads k many =
    let one : k ^ many * 1 ≤ k ^ many * factorial threads =
    mul-le-mul_left (k ^ many) (some-orders threads) in
    let turned : k ^ many * factorial threads ≡ factorial threads * k ^ many = grind arith in
    omega (arith, one, turned)

pub fewer-choices : (threads k i many : ℕ) → 1 ≤ k → i ≤ many
    → choice_count threads k i ≤ choice_count threads k many
fewer-choices threads k i many some within =
    mul-le-mul_left (factorial threads) (more-power k i many some within)

pub choices-next : (threads k i : ℕ)
    → choice_count threads k (i + 1) ≡ choice_count threads k i * k
choices-next threads k i =
    ap (λ p. factorial threads * p) (power-next k i)
    ∙ (let e : factorial threads * (k ^ i * k) ≡ factorial threads * k ^ i * k = grind arith in e)

-- what is told where there are too many
pub too-many : (whole : ℕ) (told : Option ℕ) → told ≡ None → most_choices < whole
    → IsCountWithin whole told
too-many whole told none more = subst (IsCountWithin whole) (sym none) more

-- of more than twelve threads there are too many choices
pub few-threads : (threads k many : ℕ) → 1 ≤ k → choice_count threads k many ≤ most_choices
    → threads ≤ 12
few-threads threads k many some few = elim (cases_lt 12 threads) [
  | inl more ↦
      let rises : factorial 12 ≤ factorial threads = fewer-orders 12 threads (omega arith) in
      let least : 479001600 ≤ factorial threads = rises in
      absurd (omega (arith, least, orders-fit threads k many some, few))
  | inr fewer ↦ fewer
]

-- ---- the choice at a place

module _ (threads k many place : ℕ) (some : 1 ≤ k)
    (within : place < choice_count threads k many) where
  pub order-place : place / k ^ many < factorial threads
  order-place = (div-lt_iff_lt-mul (some-power k many some)).1 within

  pub list-place : place % k ^ many < k ^ many
  list-place = mod-lt place (some-power k many some)

  pub choice-there : (lists : ℕ) (order list : List ℕ) → lists ≡ k ^ many
      → slice_get (orders (threads_below threads)) (place / lists) ≡ Some order
      → slice_get (pointlists k many) (place % lists) ≡ Some list
      → ◌≡◌ {A = Option Choice} (slice_get (choices threads k many) place)
      (Some (choice_of order list))
  choice-there lists order list is at there =
      let O : ℕ → Type 0 = λ b. slice_get (orders (threads_below threads)) (place / b)
      ≡ Some order in
      let L : ℕ → Type 0 = λ b. slice_get (pointlists k many) (place % b) ≡ Some list in
      let long : length (pointlists k many) ≡ k ^ many = (all-points k many).many_items in
      let q = place / k ^ many in
      let r = place % k ^ many in
      let parts : k ^ many * q + r ≡ place = div-add-mod place (k ^ many) in
      let turned : q * k ^ many ≡ k ^ many * q = grind arith in
      let whole : place ≡ q * length (pointlists k many) + r =
      omega (arith, parts, turned) ∙ ap (λ n. q * n + r) (sym long) in
      ap (slice_get (choices threads k many)) whole
      ∙ get-flat choice_of (orders (threads_below threads)) (pointlists k many)
      q r order list (subst O is at) (subst L is there)

pub item-at : {X : Type 0} (xs : List X) (k : ℕ) → k < length xs
    → (x : X) × (slice_get xs k ≡ Some x)
item-at [] k within = absurd (omega (arith, within))
item-at (x ∷ xs) zero within = (x, refl)
item-at (x ∷ xs) (suc k) within = item-at xs k (omega (arith, within))

-- the points of the choice at a place
pub points-there : (threads k many place : ℕ) (choice : Choice) → 1 ≤ k
    → place < choice_count threads k many
    → ◌≡◌ {A = Option Choice} (slice_get (choices threads k many) place) (Some choice)
    → slice_get (pointlists k many) (place % k ^ many) ≡ Some choice.points
points-there threads k many place choice some within at =
    let os = orders (threads_below threads) in
    let in_orders : place / k ^ many < length os =
    omega (arith, order-place threads k many place some within, (all-orders threads).many_items) in
    let order = item-at os (place / k ^ many) in_orders in
    let small = list-place threads k many place some within in
    let list = digits k many (place % k ^ many) in
    let there = points-get k many (place % k ^ many) some small in
    let made = choice-there threads k many place some within (k ^ many) order.0 list refl order.1
    there in
    let both : ◌≡◌ {A = Option Choice} (Some (choice_of order.0 list)) (Some choice) =
    sym made ∙ at in
    let same : choice_of order.0 list ≡ choice = cc in
    there ∙ ap (λ (c : Choice). Some c.points) same

-- ---- what stands in the list of choices
pub in-flat : (os ls : List (List ℕ)) (k : ℕ) (c : Choice)
    → ◌≡◌ {A = Option Choice} (slice_get (flat_map (λ o. map (choice_of o) ls) os) k) (Some c)
    → (q : ℕ) × (r : ℕ) × (slice_get os q ≡ Some c.order) × (slice_get ls r ≡ Some c.points)
in-flat [] ls k c at = absurd cc
in-flat (o ∷ os) ls k c at =
    let pair = choice_of o in
    elim (in-append (map pair ls) (flat_map (λ o. map (choice_of o) ls) os) k c at) [
      | inl here ↦
          let one = in-map pair ls k c here in (
            0,
            k,
            ap (λ (d : Choice). Some d.order) one.2,
            one.1 ∙ ap (λ (d : Choice). Some d.points) one.2,
          )
      | inr later ↦
          let more = in-flat os ls later.0 c later.2 in (suc more.0, more.1, more.2, more.3)
    ]

pub listed-choice : (threads k many place : ℕ) (choice : Choice)
    → slice_get (choices threads k many) place ≡ Some choice
    → IsOrderOf threads choice.order × ArePoints k many choice.points
listed-choice threads k many place choice at =
    let listed = in-flat (orders (threads_below threads)) (pointlists k many) place choice at in (
      (all-orders threads).none_else listed.0 choice.order listed.2,
      (all-points k many).none_else listed.1 choice.points listed.3,
    )
