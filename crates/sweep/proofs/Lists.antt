-- What is so of lists: of what passes a test in them, of sums over them, and of what stands at a
-- place.
use Rattle.std.specs.Prelude.{slice_get, sum_by, Contains, filter, map}
use Rattle.std.specs.List.{flat_map}
use Rattle.std.proofs.Common.{◌≡◌, ℕ, zero, suc, ◌+◌, ◌<◌, Bool, true, false}
use Rattle.std.proofs.Common.{Option, Some, List, [], ◌∷◌, length, get_or, refl, sym, ap}
use Rattle.std.proofs.Common.{◌∙◌, arith}
use Rattle.std.proofs.lemmas.List.Sums.{sum_by-cons, sum_by-append}
use Rattle.std.proofs.lemmas.Option.{slice_get_within, slice_get-get_or}

-- ---- what passes a test, in a list and in its filter

module _ {X : Type 0} (p : X → Bool) where
  pub filter-item : (xs : List X) (k : ℕ) (x : X) → slice_get (filter p xs) k ≡ Some x
      → (j : ℕ) × (slice_get xs j ≡ Some x) × (p x ≡ true)
  filter-item [] k x at = absurd cc
  filter-item (y ∷ xs) k x at = by (p y) refl k at (λ j. filter-item xs j x)
    where
      by : (b : Bool) → p y ≡ b → (k : ℕ) → slice_get (filter p (y ∷ xs)) k ≡ Some x
          → ((j : ℕ) → slice_get (filter p xs) j ≡ Some x
          → (j : ℕ) × (slice_get xs j ≡ Some x) × (p x ≡ true))
          → (j : ℕ) × (slice_get (y ∷ xs) j ≡ Some x) × (p x ≡ true)
      by true is zero at rest =
          let here : slice_get (y ∷ filter p xs) 0 ≡ Some x = rw is at at in
          let same : y ≡ x = cc in
          (0, ap (λ z. Some z) same, ap p (sym same) ∙ is)
      by true is (suc k) at rest =
          let here : slice_get (y ∷ filter p xs) (suc k) ≡ Some x = rw is at at in
          let more = rest k here in (suc more.0, more.1, more.2)
      by false is k at rest =
          let here : slice_get (filter p xs) k ≡ Some x = rw is at at in
          let more = rest k here in (suc more.0, more.1, more.2)

  pub filter-has : (xs : List X) (j : ℕ) (x : X) → slice_get xs j ≡ Some x → p x ≡ true
      → (k : ℕ) × (slice_get (filter p xs) k ≡ Some x)
  filter-has [] j x at passes = absurd cc
  filter-has (y ∷ xs) zero x at passes =
      let same : y ≡ x = cc in
      let is : p y ≡ true = ap p same ∙ passes in
      rw is (0, ap (λ z. Some z) same)
  filter-has (y ∷ xs) (suc j) x at passes = by (p y) refl (filter-has xs j x at passes)
    where
      by : (b : Bool) → p y ≡ b → (k : ℕ) × (slice_get (filter p xs) k ≡ Some x)
          → (k : ℕ) × (slice_get (filter p (y ∷ xs)) k ≡ Some x)
      by true is rest = rw is (suc rest.0, rest.1)
      by false is rest = rw is rest

  -- the first that passes
  pub filter-first : (xs : List X) (x : X) → slice_get (filter p xs) 0 ≡ Some x
      → (j : ℕ) × (slice_get xs j ≡ Some x) × (p x ≡ true)
      × ((i : ℕ) (y : X) → i < j → slice_get xs i ≡ Some y → p y ≡ false)
  filter-first [] x at = absurd cc
  filter-first (y ∷ xs) x at = by (p y) refl at (filter-first xs x)
    where
      by : (b : Bool) → p y ≡ b → slice_get (filter p (y ∷ xs)) 0 ≡ Some x
          → (slice_get (filter p xs) 0 ≡ Some x
          → (j : ℕ) × (slice_get xs j ≡ Some x) × (p x ≡ true)
          × ((i : ℕ) (y : X) → i < j → slice_get xs i ≡ Some y → p y ≡ false))
          → (j : ℕ) × (slice_get (y ∷ xs) j ≡ Some x) × (p x ≡ true)
          × ((i : ℕ) (z : X) → i < j → slice_get (y ∷ xs) i ≡ Some z → p z ≡ false)
      by true is at rest =
          let here : slice_get (y ∷ filter p xs) 0 ≡ Some x = rw is at at in
          let same : y ≡ x = cc in
          (0, ap (λ z. Some z) same, ap p (sym same) ∙ is, λ i z less there. absurd (omega arith))
      by false is at rest =
          let here : slice_get (filter p xs) 0 ≡ Some x = rw is at at in
          let more = rest here in
          (suc more.0, more.1, more.2, earlier more.0 more.3)
        where
          earlier : (j : ℕ)
              → ((i : ℕ) (y : X) → i < j → slice_get xs i ≡ Some y → p y ≡ false)
              → (i : ℕ) (z : X) → i < suc j → slice_get (y ∷ xs) i ≡ Some z → p z ≡ false
          earlier j before zero z less there =
              let same : y ≡ z = cc in ap p (sym same) ∙ is
          earlier j before (suc i) z less there = before i z (omega arith) there

-- ---- sums over a list

pub sum-zero : {X : Type 0} (xs : List X) → sum_by (λ x. 0) xs ≡ 0
sum-zero [] = refl
sum-zero (x ∷ xs) = omega (arith, sum_by-cons (λ x. 0) x xs, sum-zero xs)

pub sum-both : {X : Type 0} (f g : X → ℕ) (xs : List X)
    → sum_by (λ x. f x + g x) xs ≡ sum_by f xs + sum_by g xs
sum-both f g [] = refl
sum-both f g (x ∷ xs) =
    omega (
      arith,
      sum_by-cons (λ x. f x + g x) x xs,
      sum_by-cons f x xs,
      sum_by-cons g x xs,
      sum-both f g xs,
    )

-- where each item gives one, their sum is their number
pub sum-ones : {X : Type 0} (f : X → ℕ) (xs : List X)
    → ((k : ℕ) (x : X) → slice_get xs k ≡ Some x → f x ≡ 1) → sum_by f xs ≡ length xs
sum-ones f [] each = refl
sum-ones f (x ∷ xs) each =
    omega (
      arith,
      sum_by-cons f x xs,
      each 0 x refl,
      sum-ones f xs (λ k y at. each (suc k) y at),
    )

pub sum-same : {X : Type 0} (f g : X → ℕ) (xs : List X)
    → ((k : ℕ) (x : X) → slice_get xs k ≡ Some x → f x ≡ g x) → sum_by f xs ≡ sum_by g xs
sum-same f g [] each = refl
sum-same f g (x ∷ xs) each =
    omega (
      arith,
      sum_by-cons f x xs,
      sum_by-cons g x xs,
      each 0 x refl,
      sum-same f g xs (λ k y at. each (suc k) y at),
    )

sum-map : {X Y : Type 0} (f : Y → ℕ) (g : X → Y) (xs : List X)
    → sum_by f (map g xs) ≡ sum_by (λ x. f (g x)) xs
sum-map f g [] = refl
sum-map f g (x ∷ xs) =
    omega (
      arith,
      sum_by-cons f (g x) (map g xs),
      sum_by-cons (λ x. f (g x)) x xs,
      sum-map f g xs,
    )

-- over all pairs
pub sum-flat : {X Y Z : Type 0} (f : Z → ℕ) (g : X → Y → Z) (xs : List X) (ys : List Y)
    → sum_by f (flat_map (λ x. map (g x) ys) xs) ≡ sum_by (λ x. sum_by (λ y. f (g x y)) ys) xs
sum-flat f g [] ys = refl
sum-flat f g (x ∷ xs) ys =
    omega (
      arith,
      sum_by-append f (map (g x) ys) (flat_map (λ x. map (g x) ys) xs),
      sum-map f (g x) ys,
      sum_by-cons (λ x. sum_by (λ y. f (g x y)) ys) x xs,
      sum-flat f g xs ys,
    )

-- what stands in a list at a place
pub at-place : {X : Type 0} (xs : List X) (k : ℕ) (x : X) → k < length xs → get_or xs k x ≡ x
    → slice_get xs k ≡ Some x
at-place xs k x within is = slice_get-get_or xs k x within ∙ ap (λ y. Some y) is

pub got : {X : Type 0} (xs : List X) (k : ℕ) (x d : X) → slice_get xs k ≡ Some x → get_or xs k d ≡ x
got {X = X} xs k x d at =
    let both : ◌≡◌ {A = Option X} (Some (get_or xs k d)) (Some x) =
    sym (slice_get-get_or xs k d (slice_get_within xs k x at)) ∙ at in
    cc

pub is-in : {X : Type 0} (xs : List X) (k : ℕ) (x : X) → slice_get xs k ≡ Some x → Contains xs x
is-in xs k x at = (k, slice_get_within xs k x at, got xs k x x at)
