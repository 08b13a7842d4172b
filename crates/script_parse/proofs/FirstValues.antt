-- First values with a `-` before them.
use Rattle.std.proofs.Common.{◌≡◌, ℕ, Bool, true, false, cond, List, [], ◌∷◌, Some, None, refl, sym}
use Rattle.std.proofs.Common.{ap}
use Rattle.std.specs.Prelude.{ℤ, pos, neg_ℤ, codes, is_some}
use Rattle.std.specs.Str.Parse.{digits_value}
use Rattle.std.specs.Str.{bytes_eq}
use Rattle.pct_ask.specs.Tokens.{Token, Number, Symbol}
use Rattle.script_tree.specs.Forms.{value_in}
use Rattle.pct_ask.specs.declared.names.NameKind.{NameKind}
use Rattle.pct_ask.specs.declared.names.NameKind.TheVariants as kinds
use Rattle.script_parse.specs.Saying.{is_minus, minus_value, value_parts}
use Rattle.script_parse.proofs.Choices.{some, some_is, passed, same_bytes}

minus_signs : (kind : NameKind) (signs : List ℕ) → is_minus kind signs ≡ true → signs ≡ codes "-"
minus_signs kinds.Var signs h = same_bytes signs (codes "-") h
minus_signs kinds.Thread signs h = absurd cc
minus_signs kind signs h = absurd cc

pub minus_is : (kind : NameKind) (signs digits : List ℕ) → is_minus kind signs ≡ true
    → some (Symbol (codes "-") ∷ Number digits ∷ []) ≡ minus_value kind signs digits
minus_is kind signs digits h =
    rw h (ap (λ (w : List ℕ). some (Symbol w ∷ Number digits ∷ []))
    (sym (minus_signs kind signs h)))

value_of_bool : (b : Bool) (n : ℤ) → is_some (cond b (some n) None) ≡ true → b ≡ true
value_of_bool true n h = refl
value_of_bool false n h = absurd cc

-- tokens that are a first value
pub value_is_read : (kind : NameKind) (tokens : List Token) → is_some (value_in kind tokens) ≡ true
    → value_parts kind tokens ≡ Some tokens
value_is_read kind (Number digits ∷ []) h = refl
value_is_read kinds.Var (Symbol signs ∷ Number digits ∷ []) h =
    rw (value_of_bool (bytes_eq signs (codes "-")) (neg_ℤ (pos (digits_value 10 digits))) h) refl
value_is_read kind tokens h = absurd cc

minus_value_says : (kind : NameKind) (signs digits : List ℕ) (value : List Token)
    → minus_value kind signs digits ≡ Some value
    → (is_some (value_in kind (Symbol signs ∷ Number digits ∷ [])) ≡ true)
    × (Symbol signs ∷ Number digits ∷ [] ≡ value)
minus_value_says kinds.Var signs digits value e =
    let p = passed (bytes_eq signs (codes "-")) (some (Symbol signs ∷ Number digits ∷ [])) value
    e in
    (rw p.0 refl, some_is (Symbol signs ∷ Number digits ∷ []) value p.1)
minus_value_says kinds.Thread signs digits value e = absurd cc
minus_value_says kind signs digits value e = absurd cc

-- back: what is read as a first value is one
pub value_says : (kind : NameKind) (tokens value : List Token)
    → value_parts kind tokens ≡ Some value
    → (is_some (value_in kind tokens) ≡ true) × (tokens ≡ value)
value_says kind (Number digits ∷ []) value e = (refl, some_is (Number digits ∷ []) value e)
value_says kind (Symbol signs ∷ Number digits ∷ []) value e =
    minus_value_says kind signs digits value e
value_says kind tokens value e = absurd cc
