-- Items of lists by their indices, and lists whose items are related.
use Rattle.std.proofs.Common.{◌≡◌, ◌≢◌, ℕ, zero, suc, ◌+◌, ◌<◌, Some, List, [], ◌∷◌, ◌++◌, length}
use Rattle.std.proofs.Common.{set, map, refl, sym, ap, subst, ◌∙◌, arith, ◌⊎◌, inl, inr}
use Rattle.std.specs.Prelude.{slice_get}
use Rattle.std.proofs.lemmas.Bool.{cases_eq}
use Rattle.std.proofs.lemmas.List.{length-set, length-append}
use Rattle.std.proofs.lemmas.Option.{slice_get_within}
use Rattle.worker_run.specs.Batch.{Each}

pub get-set-same : {X : Type 0} (xs : List X) (i : ℕ) (y : X) → i < length xs
    → slice_get (set xs i y) i ≡ Some y
get-set-same [] i y within = absurd (omega arith)
get-set-same (x ∷ xs) zero y within = refl
get-set-same (x ∷ xs) (suc i) y within = get-set-same xs i y (omega arith)

pub get-set-other : {X : Type 0} (xs : List X) (i j : ℕ) (y : X) → j ≢ i
    → slice_get (set xs i y) j ≡ slice_get xs j
get-set-other [] i j y apart = refl
get-set-other (x ∷ xs) zero zero y apart = absurd (apart refl)
get-set-other (x ∷ xs) zero (suc j) y apart = refl
get-set-other (x ∷ xs) (suc i) zero y apart = refl
get-set-other (x ∷ xs) (suc i) (suc j) y apart = get-set-other xs i j y (λ e. apart (ap suc e))

-- what stands below the length
pub get-within : {X : Type 0} (xs : List X) (i : ℕ) → i < length xs
    → (x : X) × (slice_get xs i ≡ Some x)
get-within [] i within = absurd (omega arith)
get-within (x ∷ xs) zero within = (x, refl)
get-within (x ∷ xs) (suc i) within = get-within xs i (omega arith)

pub one-item : {X : Type 0} (xs : List X) (i : ℕ) (x y : X) → slice_get xs i ≡ Some x
    → slice_get xs i ≡ Some y → x ≡ y
one-item xs i x y at is = let both : Some x ≡ Some y = sym at ∙ is in cc

-- a list with one more item
pub get-more-old : {X : Type 0} (xs : List X) (y : X) (i : ℕ) → i < length xs
    → slice_get (xs ++ y ∷ []) i ≡ slice_get xs i
get-more-old [] y i within = absurd (omega arith)
get-more-old (x ∷ xs) y zero within = refl
get-more-old (x ∷ xs) y (suc i) within = get-more-old xs y i (omega arith)

pub get-more-new : {X : Type 0} (xs : List X) (y : X)
    → slice_get (xs ++ y ∷ []) (length xs) ≡ Some y
get-more-new [] y = refl
get-more-new (x ∷ xs) y = get-more-new xs y

pub get-more : {X : Type 0} (xs : List X) (y : X) (i : ℕ) (z : X)
    → slice_get (xs ++ y ∷ []) i ≡ Some z → (slice_get xs i ≡ Some z) ⊎ ((i ≡ length xs) × (y ≡ z))
get-more [] y zero z e = inr (refl, cc)
get-more [] y (suc i) z e = absurd cc
get-more (x ∷ xs) y zero z e = inl e
get-more (x ∷ xs) y (suc i) z e = elim (get-more xs y i z e) [
  | inl w ↦ inl w
  | inr w ↦ inr (ap suc w.0, w.1)
]

pub get-map : {X Y : Type 0} (f : X → Y) (xs : List X) (i : ℕ) (x : X) → slice_get xs i ≡ Some x
    → slice_get (map f xs) i ≡ Some (f x)
get-map f [] i x at = absurd cc
get-map f (z ∷ xs) zero x at = let is : z ≡ x = cc in ap (λ k. Some (f k)) is
get-map f (z ∷ xs) (suc i) x at = get-map f xs i x at

pub map-get : {X Y : Type 0} (f : X → Y) (xs : List X) (i : ℕ) (y : Y)
    → slice_get (map f xs) i ≡ Some y → (x : X) × (slice_get xs i ≡ Some x) × (f x ≡ y)
map-get f [] i y at = absurd cc
map-get f (z ∷ xs) zero y at = (z, refl, cc)
map-get f (z ∷ xs) (suc i) y at = map-get f xs i y at

-- ---- related lists
-- a list and itself
pub each-same : {X : Type 0} (R : X → X → Type 0) (xs : List X) → ((x : X) → R x x) → Each R xs xs
each-same R xs self = record {
  long = refl;
  each = λ i x y here there. (let one = one-item xs i x y here there in subst (R x) one (self x));
}

-- what is the same of related items
pub map-each : {X Y : Type 0} (f : X → Y) (R : X → X → Type 0) (xs ys : List X)
    → ((x y : X) → R x y → f y ≡ f x) → Each R xs ys → map f ys ≡ map f xs
map-each f R [] [] same all = refl
map-each f R [] (y ∷ ys) same all = absurd (let long = all.long in omega (arith, long))
map-each f R (x ∷ xs) [] same all = absurd (let long = all.long in omega (arith, long))
map-each f R (x ∷ xs) (y ∷ ys) same all =
    let first = same x y (all.each 0 x y refl refl) in
    let rest = map-each f R xs ys same (record {
      long = (let long = all.long in omega (arith, long));
      each = λ i u v here there. all.each (suc i) u v here there;
    }) in
    λ i. first i ∷ rest i

module _ {X Y : Type 0} (R : X → Y → Type 0) (xs : List X) (ys : List Y) where
  -- one item is changed for another that is related too
  pub each-set : Each R xs ys → (i : ℕ) (x : X) (y : Y) → i < length ys → slice_get xs i ≡ Some x
      → R x y → Each R xs (set ys i y)
  each-set all i x y within at is = record {
    long = length-set ys i y ∙ all.long;
    each = λ j u v here there. elim (cases_eq j i) [
      | inl same ↦
          let first : x ≡ u = one-item xs i x u at (ap (slice_get xs) (sym same) ∙ here) in
          let second : y ≡ v = one-item (set ys i y) i y v (get-set-same ys i y within)
          (ap (slice_get (set ys i y)) (sym same) ∙ there) in
          subst (λ (p : X × Y). R p.0 p.1) (λ k. (first k, second k)) is
      | inr apart ↦ all.each j u v here (sym (get-set-other ys i j y apart) ∙ there)
    ];
  }

-- one more of each
pub each-more : {X Y : Type 0} (R : X → Y → Type 0) (xs : List X) (ys : List Y) (x : X) (y : Y)
    → Each R xs ys → R x y → Each R (xs ++ x ∷ []) (ys ++ y ∷ [])
each-more {X = X} {Y = Y} R xs ys x y all is = record {
  long = length-append ys (y ∷ []) ∙ ap (λ n. n + 1) all.long ∙ sym (length-append xs (x ∷ []));
  each = λ i u v here there. elim (get-more xs x i u here) [
    | inl w ↦ elim (get-more ys y i v there) [
      | inl z ↦ all.each i u v w z
      | inr z ↦ absurd (let under = slice_get_within xs i u w in let past = z.0 in
          omega (arith, under, past, all.long))
    ]
    | inr w ↦ elim (get-more ys y i v there) [
      | inl z ↦ absurd (let under = slice_get_within ys i v z in let past = w.0 in
          omega (arith, under, past, all.long))
      | inr z ↦ subst (λ (p : X × Y). R p.0 p.1) (λ k. (w.1 k, z.1 k)) is
    ]
  ];
}

-- an item between two lists
pub get-middle : {X : Type 0} (xs : List X) (y : X) (zs : List X)
    → slice_get (xs ++ y ∷ zs) (length xs) ≡ Some y
get-middle [] y zs = refl
get-middle (x ∷ xs) y zs = get-middle xs y zs

pub nothing-left : {X : Type 0} (xs : List X) → length xs ≡ 0 → xs ≡ []
nothing-left [] none = refl
nothing-left (x ∷ xs) none = absurd (omega arith)
