-- The count: where every order that places a thread last is led to a verdict by some points, at
-- least one in n k^m of the
-- choices of an order and m points in 1..k leads to it.
use Rattle.std.specs.Prelude.{slice_index, slice_get, remove, map, sum_by, count_by}
use Rattle.std.specs.List.{All, flat_map, range_with_len}
use Rattle.std.proofs.Common.{◌≡◌, ℕ, zero, suc, ◌+◌, ◌-◌, ◌*◌, ◌^◌, ◌<◌, ◌≤◌, Bool, true, cond}
use Rattle.std.proofs.Common.{Some, List, [], ◌∷◌, ◌++◌, length, refl, sym, ap, subst, ◌∙◌, inl}
use Rattle.std.proofs.Common.{inr, arith}
use Rattle.std.proofs.Math.Nat.{mul-le-mul_left}
use Rattle.std.proofs.lemmas.Bool.{cases_eq}
use Rattle.std.proofs.lemmas.List.{length-append, length-map}
use Rattle.std.proofs.lemmas.List.Edits.{length-remove}
use Rattle.std.proofs.lemmas.List.Elements.{All-head, All-tail}
use Rattle.std.proofs.lemmas.List.Sums.{sum_by-append, sum_by-cons}
use Rattle.pct_ask.specs.declared.event.Event.{Event}
use Rattle.pct_ask.specs.declared.verdict.Verdict.{Verdict}
use Rattle.pct_ask.proofs.laws.SameVerdicts.{verdict-Decides}
use Rattle.turn_book.specs.Chances.{threads_below}
use Rattle.choices.specs.Orders.{factorial, orders_ending, orders_by, orders, low_orders}
use Rattle.choices.specs.PointLists.{IsWithin, pointlists}
use Rattle.choices.specs.Counting.{LedRuns, has_verdict, hits_under, hits}
use Rattle.choices.proofs.laws.OrderLists.{get-left, get-right, get-map, length-low-orders}
use Rattle.choices.proofs.laws.OrderLists.{length-threads, thread-at}

-- ---- the lists of points

abbrev IsAt : {X : Type 0} → List X → X → Type 0
IsAt xs x = (k : ℕ) × (k < length xs) × (slice_get xs k ≡ Some x)

at-flat : {X Y : Type 0} (f : X → List Y) (xs : List X) (k : ℕ) (x : X) (y : Y)
    → slice_get xs k ≡ Some x → IsAt (f x) y → IsAt (flat_map f xs) y
at-flat f [] k x y is at = absurd cc
at-flat f (z ∷ xs) zero x y is at =
    let same : z ≡ x = cc in
    let there = subst (λ w. IsAt (f w) y) (sym same) at in (
      there.0,
      omega (arith, there.1, length-append (f z) (flat_map f xs)),
      get-left (f z) (flat_map f xs) there.0 there.1 ∙ there.2,
    )
at-flat f (z ∷ xs) (suc k) x y is at =
    let rest = at-flat f xs k x y is at in (
      length (f z) + rest.0,
      omega (arith, rest.1, length-append (f z) (flat_map f xs)),
      get-right (f z) (flat_map f xs) rest.0 ∙ rest.2,
    )

pub range-get : (from many k : ℕ) → k < many
    → slice_get (range_with_len from many) k ≡ Some (from + k)
range-get from zero k within = absurd (omega arith)
range-get from (suc many) zero within =
    ap (λ x. Some x) (let e : from ≡ from + 0 = omega arith in e)
range-get from (suc many) (suc k) within =
    range-get (from + 1) many k (omega arith)
    ∙ ap (λ x. Some x) (let e : from + 1 + k ≡ from + suc k = omega arith in e)

-- each list of so many points in 1..k is listed
pub points-listed : (k many : ℕ) (points : List ℕ) → length points ≡ many → All (IsWithin k) points
    → IsAt (pointlists k many) points
points-listed k zero [] long within = (0, omega arith, refl)
points-listed k zero (p ∷ points) long within = absurd (omega arith)
points-listed k (suc many) [] long within = absurd (omega arith)
points-listed k (suc many) (p ∷ points) long within =
    let here = All-head (IsWithin k) p points within in
    let rest = points-listed k many points (omega arith) (All-tail (IsWithin k) p points within) in
    let f : ℕ → List (List ℕ) = λ point. map (λ ps. point ∷ ps) (pointlists k many) in
    let at : slice_get (range_with_len 1 k) (p - 1) ≡ Some p =
    range-get 1 k (p - 1) (omega (arith, here.0, here.1))
    ∙ ap (λ x. Some x) (let e : 1 + (p - 1) ≡ p = omega (arith, here.0) in e) in
    at-flat f (range_with_len 1 k) (p - 1) p (p ∷ points) at (
      rest.0,
      omega (arith, rest.1, length-map (pointlists k many) (λ ps. p ∷ ps)),
      get-map (λ ps. p ∷ ps) (pointlists k many) rest.0 points rest.2,
    )

-- ---- one that passes is counted

abbrev one_if : Bool → ℕ
one_if b = cond b 1 0

one-counted : {X : Type 0} (test : X → Bool) (xs : List X) (k : ℕ) (x : X) → slice_get xs k ≡ Some x
    → test x ≡ true → 1 ≤ count_by test xs
one-counted test [] k x is passes = absurd cc
one-counted test (y ∷ xs) zero x is passes =
    let same : y ≡ x = cc in
    let here = ap one_if (ap test same ∙ passes) in
    omega (arith, sum_by-cons (λ z. cond (test z) 1 0) y xs, here)
one-counted test (y ∷ xs) (suc k) x is passes =
    omega (arith, sum_by-cons (λ z. cond (test z) 1 0) y xs, one-counted test xs k x is passes)

-- an order that is led to the verdict by some listed points
pub order-hits : (leads : LedRuns) (order points : List ℕ) (made : List Event) (verdict : Verdict)
    (k many : ℕ) → length points ≡ many → All (IsWithin k) points
    → leads order points ≡ Some (made, verdict)
    → 1 ≤ hits_under leads order (pointlists k many) verdict
order-hits leads order points made verdict k many long within is =
    let at = points-listed k many points long within in
    one-counted (λ ps. has_verdict verdict (leads order ps)) (pointlists k many) at.0 points at.2
    (ap (has_verdict verdict) is ∙ (verdict-Decides verdict verdict).1 refl)

-- ---- the sum over all orders is at least that over those that place the thread last

ending-sum : (f : List ℕ → ℕ) (others : List ℕ → List (List ℕ)) (list : List ℕ) (place p : ℕ)
    → p < place → sum_by f (map (λ order. order ++ slice_index list p ∷ [])
    (others (remove list p))) ≤ sum_by f (orders_ending others list place)
ending-sum f others list zero p less = absurd (omega arith)
ending-sum f others list (suc q) p less = elim (cases_eq p q) [
  | inl same ↦
      let P : ℕ → Type 0 = λ z. sum_by f
      (map (λ order. order ++ slice_index list p ∷ []) (others (remove list p)))
      ≤ sum_by f (orders_ending others list (suc z)) in
      subst P same (omega (
        arith,
        sum_by-append f
            (map (λ order. order ++ slice_index list p ∷ []) (others (remove list p)))
            (orders_ending others list p),
      ))
  | inr apart ↦
      omega (
        arith,
        ending-sum f others list q p (omega arith),
        sum_by-append f (map (λ order. order ++ slice_index list q ∷ []) (others (remove list q)))
            (orders_ending others list q),
      )
]

low-sum : (f : List ℕ → ℕ) (threads low : ℕ) → low < threads
    → sum_by f (low_orders threads low) ≤ sum_by f (orders (threads_below threads))
low-sum f zero low within = absurd (omega arith)
low-sum f (suc n) low within =
    let list = threads_below (suc n) in
    let rest = remove list low in
    let inside : low < length list = omega (arith, length-threads (suc n)) in
    let shorter : length rest ≡ n = omega
    (arith, length-remove list low inside, length-threads (suc n)) in
    let sums = ending-sum f (orders_by n) list (suc n) low within in
    let L : ℕ → Type 0 = λ t. sum_by f (map (λ order. order ++ t ∷ []) (orders_by n rest))
    ≤ sum_by f (orders_by (suc n) list) in
    let M : ℕ → Type 0 = λ m. sum_by f (map (λ order. order ++ low ∷ []) (orders_by m rest))
    ≤ sum_by f (orders_by (suc n) list) in
    let N : ℕ → Type 0 = λ m. sum_by f (low_orders (suc n) low) ≤ sum_by f (orders_by m list) in
    subst N (sym (length-threads (suc n)))
    (subst M (sym shorter) (subst L (thread-at (suc n) low within) sums))

-- where each item gives one at least
each-sum : {X : Type 0} (f : X → ℕ) (xs : List X) → All (λ x. 1 ≤ f x) xs → length xs ≤ sum_by f xs
each-sum f [] each = omega arith
each-sum f (x ∷ xs) each =
    omega (
      arith,
      sum_by-cons f x xs,
      All-head (λ y. 1 ≤ f y) x xs each,
      each-sum f xs (All-tail (λ y. 1 ≤ f y) x xs each),
    )

counted-by : (threads bound total power : ℕ) → 0 < threads → factorial (threads - 1) ≤ total
    → bound ≡ threads * power → factorial threads * power ≤ total * bound
counted-by zero bound total power some few is = absurd (omega arith)
counted-by (suc n) bound total power some few is =
    let least : factorial n ≤ total =
    (let P : ℕ → Type 0 = λ m. factorial m ≤ total in
    subst P (let e : suc n - 1 ≡ n = omega arith in e) few) in
    let product = mul-le-mul_left (suc n * power) least in
    let left : factorial (suc n) * power ≡ suc n * power * factorial n = grind arith in
    let right : total * bound ≡ suc n * power * total =
    ap (λ b. total * b) is ∙ (let e : total * (suc n * power) ≡ suc n * power * total =
    grind arith in e) in
    omega (arith, product, left, right)

-- Where each order that places a thread last is led to the verdict by some listed points, there
-- are as many choices that lead to it as such orders;
pub least-hits : (leads : LedRuns) (threads low k many : ℕ) (verdict : Verdict) → low < threads
    → All (λ order. 1 ≤ hits_under leads order (pointlists k many) verdict)
    (low_orders threads low) → factorial (threads - 1) ≤ hits leads threads k many verdict
least-hits leads threads low k many verdict within each =
    let f : List ℕ → ℕ = λ order. hits_under leads order (pointlists k many) verdict in
    omega (
      arith,
      each-sum f (low_orders threads low) each,
      low-sum f threads low within,
      length-low-orders threads low within,
    )

-- so of the n! k^m choices at least one in n k^m leads to it.
pub count-holds : (leads : LedRuns) (threads low k many bound : ℕ) (verdict : Verdict)
    → low < threads → All (λ order. 1 ≤ hits_under leads order (pointlists k many) verdict)
    (low_orders threads low) → bound ≡ threads * k ^ many
    → factorial threads * k ^ many ≤ hits leads threads k many verdict * bound
count-holds leads threads low k many bound verdict within each is =
    counted-by threads bound (hits leads threads k many verdict) (k ^ many)
    (omega arith) (least-hits leads threads low k many verdict within each) is
