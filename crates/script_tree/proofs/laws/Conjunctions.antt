-- Parts of conjunctions of tests that hold together.
use Rattle.std.proofs.Common.{◌≡◌, ◌&&◌, Bool, true, false, List, ◌++◌, refl, ◌∙◌}
use Rattle.std.specs.List.{list_all}
use Rattle.std.proofs.lemmas.Bool.{and_from}
use Rattle.std.proofs.lemmas.List.Folds.{list_all-append}

pub left_true : (a b : Bool) → (a && b) ≡ true → a ≡ true
left_true true b h = refl
left_true false b h = h

pub right_true : (a b : Bool) → (a && b) ≡ true → b ≡ true
right_true true b h = h
right_true false b h = absurd (let e : false ≡ true = h in cc)

-- the first of three, of four and of five
pub first_of_3 : (a b c : Bool) → (a && b && c) ≡ true → a ≡ true
first_of_3 a b c h = left_true a b (left_true (a && b) c h)

pub first_of_4 : (a b c d : Bool) → (a && b && c && d) ≡ true → a ≡ true
first_of_4 a b c d h = first_of_3 a b c (left_true (a && b && c) d h)

pub first_of_5 : (a b c d e : Bool) → (a && b && c && d && e) ≡ true → a ≡ true
first_of_5 a b c d e h = first_of_4 a b c d (left_true (a && b && c && d) e h)

pub second_of_3 : (a b c : Bool) → (a && b && c) ≡ true → b ≡ true
second_of_3 a b c h = right_true a b (left_true (a && b) c h)

pub third_of_4 : (a b c d : Bool) → (a && b && c && d) ≡ true → c ≡ true
third_of_4 a b c d h = right_true (a && b) c (left_true (a && b && c) d h)

pub third_of_5 : (a b c d e : Bool) → (a && b && c && d && e) ≡ true → c ≡ true
third_of_5 a b c d e h = third_of_4 a b c d (left_true (a && b && c && d) e h)

-- what holds of all items of two lists holds of all items of both
pub all-append : {A : Type 0} (test : A → Bool) (xs ys : List A) → list_all test xs ≡ true
    → list_all test ys ≡ true → list_all test (xs ++ ys) ≡ true
all-append test xs ys in_xs in_ys =
    list_all-append test xs ys ∙ and_from (list_all test xs) (list_all test ys) in_xs in_ys
