-- Each order of the threads stands in the list of orders at one place, and each list of points at
-- one place in the list of such lists; nothing else stands there.
use Rattle.std.specs.Prelude.{slice_index, slice_get, remove, map}
use Rattle.std.specs.List.{All, flat_map, range_with_len}
use Rattle.std.proofs.Common.{◌≡◌, ◌≢◌, ◌⊎◌, ℕ, zero, suc, ◌+◌, ◌*◌, ◌^◌, ◌<◌, ◌≤◌, Some, List, []}
use Rattle.std.proofs.Common.{◌∷◌, ◌++◌, length, refl, sym, ap, subst, ◌∙◌, inl, inr, arith}
use Rattle.std.proofs.Math.Nat.{pow-suc, pow-zero}
use Rattle.std.proofs.lemmas.Bool.{cases_lt}
use Rattle.std.proofs.lemmas.List.{length-append, length-map}
use Rattle.std.proofs.lemmas.List.Edits.{length-remove, get_or-remove_below, get_or-remove_above}
use Rattle.std.proofs.lemmas.List.Elements.{All-nil, All-cons, All-head, All-tail}
use Rattle.turn_book.specs.Chances.{threads_below}
use Rattle.choices.specs.Orders.{factorial, orders_ending, orders_by, orders}
use Rattle.choices.specs.PointLists.{IsWithin, pointlists}
use Rattle.rank_now.specs.Order.{IsOrderOf}
use Rattle.choices.specs.Laws.{ArePoints, HasEachOnce}
use Rattle.choices.proofs.laws.OrderLists.{Arranges, length-orders_by, length-threads}
use Rattle.choices.proofs.laws.OrderLists.{range-at, same-order, order-same, orders-all}
use Rattle.choices.proofs.laws.OrderLists.{order-listed}
use Rattle.choices.proofs.laws.Counts.{points-listed}

-- ---- lists in which nothing stands twice

pub record Once {X : Type 0} (xs : List X) : Type 0 where
  pub once : (i j : ℕ) (x : X) → slice_get xs i ≡ Some x → slice_get xs j ≡ Some x → i ≡ j

once-nil : {X : Type 0} → Once {X = X} []
once-nil = record { once = λ i j x at again. absurd cc }

once-single : {X : Type 0} (x : X) → Once (x ∷ [])
once-single {X = X} x = record { once = by }
  where
    by : (i j : ℕ) (y : X) → slice_get (x ∷ []) i ≡ Some y → slice_get (x ∷ []) j ≡ Some y → i ≡ j
    by zero zero y at again = refl
    by (suc i) j y at again = absurd cc
    by zero (suc j) y at again = absurd cc

-- an item of two lists in a row is one of the first or of the second
pub in-append : {X : Type 0} (a b : List X) (k : ℕ) (x : X) → slice_get (a ++ b) k ≡ Some x
    → (slice_get a k ≡ Some x) ⊎ ((j : ℕ) × (k ≡ length a + j) × (slice_get b j ≡ Some x))
in-append [] b k x is = inr (k, omega arith, is)
in-append (y ∷ a) b zero x is = inl is
in-append (y ∷ a) b (suc k) x is = elim (in-append a b k x is) [
  | inl here ↦ inl here
  | inr later ↦ inr (later.0, omega (arith, later.1), later.2)
]

once-append : {X : Type 0} (a b : List X) → Once a → Once b
    → ((i j : ℕ) (x : X) → slice_get a i ≡ Some x → slice_get b j ≡ Some x → ⊥) → Once (a ++ b)
once-append a b one two apart = record {
  once = λ i j x at again. elim (in-append a b i x at) [
    | inl p ↦ elim (in-append a b j x again) [
      | inl q ↦ one.once i j x p q
      | inr q ↦ absurd (apart i q.0 x p q.2)
    ]
    | inr p ↦ elim (in-append a b j x again) [
      | inl q ↦ absurd (apart j p.0 x q p.2)
      | inr q ↦ omega (arith, p.1, q.1, two.once p.0 q.0 x p.2 q.2)
    ]
  ];
}

pub in-map : {X Y : Type 0} (f : X → Y) (xs : List X) (k : ℕ) (y : Y)
    → slice_get (map f xs) k ≡ Some y
    → (x : X) × (slice_get xs k ≡ Some x) × (f x ≡ y)
in-map f [] k y is = absurd cc
in-map f (x ∷ xs) zero y is = (x, refl, (let same : f x ≡ y = cc in same))
in-map f (x ∷ xs) (suc k) y is = in-map f xs k y is

once-map : {X Y : Type 0} (f : X → Y) (xs : List X) → ((x y : X) → f x ≡ f y → x ≡ y) → Once xs
    → Once (map f xs)
once-map f xs apart one = record {
  once = λ i j y at again.
      let p = in-map f xs i y at in
      let q = in-map f xs j y again in
      one.once i j p.0 p.1 (q.1 ∙ ap (λ x. Some x) (apart q.0 p.0 (q.2 ∙ sym p.2)));
}

-- what holds of all items of a list holds of the one at a place
pub listed-all : {X : Type 0} (P : X → Type 0) (xs : List X) (k : ℕ) (x : X) → All P xs
    → slice_get xs k ≡ Some x → P x
listed-all P [] k x all at = absurd cc
listed-all P (y ∷ xs) zero x all at = subst P (let same : y ≡ x = cc in same) (All-head P y xs all)
listed-all P (y ∷ xs) (suc k) x all at = listed-all P xs k x (All-tail P y xs all) at

-- ---- the lists of points

-- the lists that begin with one of some numbers, each followed by one of the lists
abbrev begun : ℕ → ℕ → List (List ℕ) → List (List ℕ)
begun from many lists =
    flat_map (λ p. map (λ points. p ∷ points) lists) (range_with_len from many)

record IsBegun (from many : ℕ) (lists : List (List ℕ)) (points : List ℕ) : Type 0 where
  pub first : ℕ
  pub rest : List ℕ
  pub place : ℕ
  pub is : points ≡ first ∷ rest
  pub low : from ≤ first
  pub high : first < from + many
  pub stands : slice_get lists place ≡ Some rest

in-begun : (from many : ℕ) (lists : List (List ℕ)) (k : ℕ) (points : List ℕ)
    → slice_get (begun from many lists) k ≡ Some points → IsBegun from many lists points
in-begun from zero lists k points at = absurd cc
in-begun from (suc many) lists k points at =
    elim (in-append (map (λ ps. from ∷ ps) lists) (begun (from + 1) many lists) k points at) [
      | inl here ↦
          let one = in-map (λ ps. from ∷ ps) lists k points here in
          record {
            first = from;
            rest = one.0;
            place = k;
            is = sym one.2;
            low = omega arith;
            high = omega arith;
            stands = one.1;
          }
      | inr later ↦
          let more = in-begun (from + 1) many lists later.0 points later.2 in
          record {
            first = more.first;
            rest = more.rest;
            place = more.place;
            is = more.is;
            low = omega (arith, more.low);
            high = omega (arith, more.high);
            stands = more.stands;
          }
    ]

begun-once : (from many : ℕ) (lists : List (List ℕ)) → Once lists → Once (begun from many lists)
begun-once from zero lists one = once-nil
begun-once from (suc many) lists one =
    once-append (map (λ ps. from ∷ ps) lists) (begun (from + 1) many lists)
    (once-map (λ ps. from ∷ ps) lists (λ x y same. cc) one)
    (begun-once (from + 1) many lists one)
    (λ i j points at later.
    let here = in-map (λ ps. from ∷ ps) lists i points at in
    let more = in-begun (from + 1) many lists j points later in
    let both : from ∷ here.0 ≡ more.first ∷ more.rest = here.2 ∙ more.is in
    let heads : from ≡ more.first = cc in
    omega (arith, heads, more.low))

length-begun : (from many : ℕ) (lists : List (List ℕ))
    → length (begun from many lists) ≡ many * length lists
length-begun from zero lists = let e : 0 ≡ 0 * length lists = omega arith in e
length-begun from (suc many) lists =
    let product : suc many * length lists ≡ length lists + many * length lists = grind arith in
    omega (
      arith,
      length-append (map (λ ps. from ∷ ps) lists) (begun (from + 1) many lists),
      length-map lists (λ ps. from ∷ ps),
      length-begun (from + 1) many lists,
      product,
    )

pointlists-once : (k many : ℕ) → Once (pointlists k many)
pointlists-once k zero = once-single []
pointlists-once k (suc many) = begun-once 1 k (pointlists k many) (pointlists-once k many)

length-pointlists : (k many : ℕ) → length (pointlists k many) ≡ k ^ many
length-pointlists k zero = sym (pow-zero k)
length-pointlists k (suc many) =
    length-begun 1 k (pointlists k many) ∙ ap (λ n. k * n) (length-pointlists k many)
    ∙ (let turned : k * k ^ many ≡ k ^ many * k = grind arith in turned)
    ∙ sym (pow-suc k many)

listed-points : (k many place : ℕ) (points : List ℕ)
    → slice_get (pointlists k many) place ≡ Some points → ArePoints k many points
listed-points k zero zero points at =
    let same : [] ≡ points = cc in
    subst (ArePoints k 0) same (record { long = refl; within = All-nil (IsWithin k) })
listed-points k zero (suc place) points at = absurd cc
listed-points k (suc many) place points at =
    let one = in-begun 1 k (pointlists k many) place points at in
    let rest = listed-points k many one.place one.rest one.stands in
    subst (ArePoints k (suc many)) (sym one.is) (record {
      long = omega (arith, rest.long);
      within =
          All-cons (IsWithin k) one.first one.rest
          (omega (arith, one.low), omega (arith, one.high)) rest.within;
    })

-- ---- the lists of orders

-- no thread stands at two places of the list
pub record AllApart (list : List ℕ) : Type 0 where
  pub apart : (i j : ℕ) → i < j → j < length list → slice_index list i ≢ slice_index list j

-- where an item stood before one was left out
stood : (list : List ℕ) (p i : ℕ) → p < length list → i < length (remove list p)
    → (k : ℕ) × (slice_index (remove list p) i ≡ slice_index list k) × (i < p → k ≡ i)
    × (p ≤ i → k ≡ i + 1)
stood list p i within inside = elim (cases_lt i p) [
  | inl before ↦
      (i, get_or-remove_below list p 0 i before within, (λ l. refl), (λ l. omega arith))
  | inr behind ↦
      (i + 1, get_or-remove_above list p 0 i behind within, (λ l. omega arith), (λ l. refl))
]

apart-remove : (list : List ℕ) (p : ℕ) → p < length list → AllApart list → AllApart (remove list p)
apart-remove list p within all = record {
  apart = λ i j less inside same.
      let a = stood list p i within (omega arith) in
      let b = stood list p j within inside in
      let fewer = length-remove list p within in
      let order : a.0 < b.0 = elim (cases_lt i p) [
        | inl x ↦ elim (cases_lt j p) [
          | inl y ↦ omega (arith, a.2 x, b.2 y)
          | inr y ↦ omega (arith, a.2 x, b.3 y)
        ]
        | inr x ↦ omega (arith, a.3 x, b.3 (omega arith))
      ] in
      let high : b.0 < length list = elim (cases_lt j p) [
        | inl y ↦ omega (arith, b.2 y)
        | inr y ↦ omega (arith, b.3 y, fewer)
      ] in
      all.apart a.0 b.0 order high (sym a.1 ∙ same ∙ b.1);
}

-- two lists with an item behind each
last-same : (one other : List ℕ) (x y : ℕ) → one ++ x ∷ [] ≡ other ++ y ∷ []
    → (one ≡ other) × (x ≡ y)
last-same [] [] x y same = (refl, (let e : x ≡ y = cc in e))
last-same [] (o ∷ other) x y same =
    absurd (omega (arith, ap length same, length-append other (y ∷ [])))
last-same (o ∷ one) [] x y same =
    absurd (omega (arith, ap length same, length-append one (x ∷ [])))
last-same (o ∷ one) (p ∷ other) x y same =
    let heads : o ≡ p = cc in
    let tails : one ++ x ∷ [] ≡ other ++ y ∷ [] = cc in
    let rest = last-same one other x y tails in
    ((λ i. heads i ∷ rest.0 i), rest.1)

record IsEnded (others : List ℕ → List (List ℕ)) (list : List ℕ) (place : ℕ) (order : List ℕ)
    : Type 0 where
  pub last : ℕ
  pub front : List ℕ
  pub low : last < place
  pub is : front ++ slice_index list last ∷ [] ≡ order

in-ending : (others : List ℕ → List (List ℕ)) (list : List ℕ) (place k : ℕ) (order : List ℕ)
    → slice_get (orders_ending others list place) k ≡ Some order
    → IsEnded others list place order
in-ending others list zero k order at = absurd cc
in-ending others list (suc p) k order at =
    let block = map (λ o. o ++ slice_index list p ∷ []) (others (remove list p)) in
    elim (in-append block (orders_ending others list p) k order at) [
      | inl here ↦
          let one = in-map (λ o. o ++ slice_index list p ∷ []) (others (remove list p)) k order
          here in
          record { last = p; front = one.0; low = omega arith; is = one.2 }
      | inr later ↦
          let more = in-ending others list p later.0 order later.2 in
          record {
            last = more.last;
            front = more.front;
            low = omega (arith, more.low);
            is = more.is;
          }
    ]

ending-once : (others : List ℕ → List (List ℕ)) (list : List ℕ) (place : ℕ)
    → place ≤ length list → AllApart list
    → ((p : ℕ) → p < length list → Once (others (remove list p)))
    → Once (orders_ending others list place)
ending-once others list zero within all each = once-nil
ending-once others list (suc p) within all each =
    once-append (map (λ o. o ++ slice_index list p ∷ []) (others (remove list p)))
    (orders_ending others list p)
    (once-map (λ o. o ++ slice_index list p ∷ []) (others (remove list p))
    (λ one other same.
    (last-same one other (slice_index list p) (slice_index list p) same).0)
    (each p (omega arith)))
    (ending-once others list p (omega arith) all each)
    (λ i j order at later.
    let here = in-map (λ o. o ++ slice_index list p ∷ []) (others (remove list p)) i order at in
    let more = in-ending others list p j order later in
    all.apart more.last p more.low (omega arith)
    (last-same more.front here.0 (slice_index list more.last) (slice_index list p)
    (more.is ∙ sym here.2)).1)

orders-once : (n : ℕ) (list : List ℕ) → length list ≡ n → AllApart list → Once (orders_by n list)
orders-once zero list long all = once-single []
orders-once (suc n) list long all =
    ending-once (orders_by n) list (suc n) (omega arith) all
    (λ p within. orders-once n (remove list p) (omega (arith, length-remove list p within))
    (apart-remove list p within all))

threads-apart : (threads : ℕ) → AllApart (threads_below threads)
threads-apart threads = record {
  apart = λ i j less within same.
      let long = length-threads threads in
      omega (
        arith,
        same,
        range-at 0 threads i (omega arith),
        range-at 0 threads j (omega arith),
      );
}

-- ---- the law

pub all-orders : (threads : ℕ)
    → HasEachOnce (orders (threads_below threads)) (factorial threads) (IsOrderOf threads)
all-orders threads =
    let list = threads_below threads in
    let long = length-threads threads in
    let one = orders-once (length list) list refl (threads-apart threads) in
    record {
      many_items = length-orders_by (length list) list refl ∙ ap factorial long;
      each = λ order is.
          let at = order-listed (length list) list order refl (record {
            long = is.whole ∙ sym long;
            same = order-same threads order is.whole is.is_order;
          }) in
          record {
            place = at.0;
            stands = at.2;
            once = λ other again. one.once other at.0 order again at.2;
          };
      none_else = λ place order at.
          let is = listed-all (Arranges list) (orders list) place order
          (orders-all (length list) list refl) at in
          record {
            is_order = same-order threads order (is.long ∙ long) is.same;
            whole = is.long ∙ long;
          };
    }

pub all-points : (k many : ℕ) → HasEachOnce (pointlists k many) (k ^ many) (ArePoints k many)
all-points k many = record {
  many_items = length-pointlists k many;
  each = λ points is.
      let at = points-listed k many points is.long is.within in
      record {
        place = at.0;
        stands = at.2;
        once = λ other again. (pointlists-once k many).once other at.0 points again at.2;
      };
  none_else = λ place points at. listed-points k many place points at;
}
