-- How many choices are listed, and the first of them with one more.
use Rattle.std.specs.Prelude.{slice_get}
use Rattle.std.specs.List.{flat_map}
use Rattle.std.proofs.Common.{◌≡◌, ℕ, zero, suc, ◌+◌, ◌*◌, List, [], ◌∷◌, ◌++◌, Some, length, map}
use Rattle.std.proofs.Common.{take, ap, ◌∙◌, arith}
use Rattle.std.proofs.lemmas.List.{length-append, length-map}
use Rattle.turn_book.specs.Chances.{threads_below}
use Rattle.choices.specs.Orders.{factorial, orders}
use Rattle.choices.specs.PointLists.{pointlists}
use Rattle.choices.proofs.laws.ListedOnce.{all-orders, all-points}
use Rattle.sweep.specs.Choices.{choice_of, choices, choice_count}

-- ---- how many choices are listed

length-flat : {X Y Z : Type 0} (f : X → Y → Z) (xs : List X) (ys : List Y)
    → length (flat_map (λ x. map (f x) ys) xs) ≡ length xs * length ys
length-flat f [] ys = let e : 0 ≡ 0 * length ys = omega arith in e
length-flat f (x ∷ xs) ys =
    let product : suc (length xs) * length ys ≡ length ys + length xs * length ys = grind arith in
    omega (
      arith,
      length-append (map (f x) ys) (flat_map (λ x. map (f x) ys) xs),
      length-map ys (f x),
      length-flat f xs ys,
      product,
    )

pub length-choices : (threads k many : ℕ)
    → length (choices threads k many) ≡ choice_count threads k many
length-choices threads k many =
    length-flat choice_of (orders (threads_below threads)) (pointlists k many)
    ∙ ap (λ n. n * length (pointlists k many)) (all-orders threads).many_items
    ∙ ap (λ n. factorial threads * n) (all-points k many).many_items

-- ---- one choice more

pub take-next : {X : Type 0} (xs : List X) (k : ℕ) (x : X) → slice_get xs k ≡ Some x
    → take (k + 1) xs ≡ take k xs ++ x ∷ []
take-next xs k x at =
    ap (λ n. take n xs) (let e : k + 1 ≡ suc k = omega arith in e) ∙ by xs k at
  where
    by : {X : Type 0} {x : X} (xs : List X) (k : ℕ) → slice_get xs k ≡ Some x
        → take (suc k) xs ≡ take k xs ++ x ∷ []
    by [] k at = absurd cc
    by {X = X} {x = x} (y ∷ xs) zero at =
        let same : y ≡ x = cc in ap (λ z. z ∷ []) same
    by (y ∷ xs) (suc k) at = ap (λ l. y ∷ l) (by xs k at)
