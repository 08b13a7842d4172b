-- Small theorems that read the relation between tokens and expressions.
use Rattle.std.specs.Prelude.{◌≡◌, ℕ, pos, List, [], ◌∷◌, Some, codes, refl}
use Rattle.std.specs.Str.Parse.{digits_value}
use Rattle.pct_ask.specs.Tokens.{Token, Number, Symbol, tokens_of}
use Rattle.script_tree.specs.declared.expr.Op.TheVariants as ops
use Rattle.script_tree.specs.Trees.{Expression, Two, Not}
use Rattle.script_tree.specs.Trees as trees
use Rattle.script_tree.specs.Expressions.{IsSpelled, IsExpression, number, not, two, stronger}

abbrev pub numeral : List ℕ → Expression
numeral digits = trees.Number (pos (digits_value 10 digits))

-- a number at each weaker level
pub number_5 : (digits : List ℕ) → IsSpelled 5 (Number digits ∷ []) (numeral digits)
number_5 digits = stronger 5 (Number digits ∷ []) (numeral digits) (number digits)

pub number_4 : (digits : List ℕ) → IsSpelled 4 (Number digits ∷ []) (numeral digits)
number_4 digits = stronger 4 (Number digits ∷ []) (numeral digits) (number_5 digits)

pub number_3 : (digits : List ℕ) → IsSpelled 3 (Number digits ∷ []) (numeral digits)
number_3 digits = stronger 3 (Number digits ∷ []) (numeral digits) (number_4 digits)

abbrev one : List ℕ
one = codes "1"

abbrev two_ : List ℕ
two_ = codes "2"

abbrev three : List ℕ
three = codes "3"

abbrev minus : Token
minus = Symbol (codes "-")

-- 1-2-3 is (1-2)-3
abbrev pub left_first : Expression
left_first = Two ops.Less (Two ops.Less (numeral one) (numeral two_)) (numeral three)

pub minus_tokens : tokens_of (codes "1-2-3")
    ≡ Some (Number one ∷ minus ∷ Number two_ ∷ minus ∷ Number three ∷ [])
minus_tokens = refl

pub minus_groups_to_the_left : IsExpression
    (Number one ∷ minus ∷ Number two_ ∷ minus ∷ Number three ∷ []) left_first
minus_groups_to_the_left =
    let inner : IsSpelled 3 (Number one ∷ minus ∷ Number two_ ∷ [])
    (Two ops.Less (numeral one) (numeral two_)) =
    two ops.Less (Number one ∷ []) (Number two_ ∷ []) (numeral one) (numeral two_) (number_3 one)
    (number_4 two_) in
    stronger 0 _ left_first (stronger 1 _ left_first (stronger 2 _ left_first
    (two ops.Less (Number one ∷ minus ∷ Number two_ ∷ []) (Number three ∷ [])
    (Two ops.Less (numeral one) (numeral two_)) (numeral three) inner (number_4 three))))

-- !1 == 2 is (!1) == 2
abbrev pub not_first : Expression
not_first = Two ops.Eq (Not (numeral one)) (numeral two_)

abbrev not_one : List Token
not_one = Symbol (codes "!") ∷ Number one ∷ []

pub not_tokens : tokens_of (codes "!1 == 2")
    ≡ Some (Symbol (codes "!") ∷ Number one ∷ Symbol (codes "==") ∷ Number two_ ∷ [])
not_tokens = refl

pub not_is_stronger : IsExpression
    (Symbol (codes "!") ∷ Number one ∷ Symbol (codes "==") ∷ Number two_ ∷ []) not_first
not_is_stronger =
    let left : IsSpelled 3 not_one (Not (numeral one)) =
    stronger 3 not_one (Not (numeral one))
    (stronger 4 not_one (Not (numeral one))
    (not (Number one ∷ []) (numeral one) (number_5 one))) in
    stronger 0 _ not_first
    (stronger 1 _ not_first
    (two ops.Eq not_one (Number two_ ∷ []) (Not (numeral one)) (numeral two_) left (number_3 two_)))
