-- Where no token is a number out of range, no number of what they spell is.
use Rattle.std.proofs.Common.{◌≡◌, ℕ, ◌^◌, false, List, [], ◌∷◌, ◌++◌, sym, ap, ◌∙◌}
use Rattle.std.specs.Prelude.{codes}
use Rattle.std.specs.Str.Parse.{digits_value}
use Rattle.std.proofs.lemmas.List.Folds.{list_any-append}
use Rattle.std.proofs.lemmas.Bool.{leb-false, or_parts}
use Rattle.pct_ask.specs.Tokens.{Token, Number, Symbol}
use Rattle.script_tree.specs.Trees.{Expression}
use Rattle.script_tree.specs.Expressions.{IsSpelled, number, register, enclosed, minus, not, two}
use Rattle.script_tree.specs.Expressions.{stronger, signs_of}
use Rattle.script_tree.specs.Forms.{TokenForm, MeantForm, Write, Add, Cas, Assert, Set, If, While}
use Rattle.script_tree.specs.Forms.{Means, tokens_of_form, IsForm}
use Rattle.script_tree.specs.Ranges.{is_great, has_great, is_out_of_range}
use Rattle.script_parse.specs.Lawful.{HasSmallNumbers, NumbersAreSmall}

-- parts of tokens without a great number have none
front_small : (front back : List Token) → has_great (front ++ back) ≡ false
    → (has_great front ≡ false) × (has_great back ≡ false)
front_small front back h =
    or_parts (has_great front) (has_great back) (sym (list_any-append is_great front back) ∙ h)

spelled_small : (level : ℕ) (tokens : List Token) (tree : Expression)
    → IsSpelled level tokens tree → has_great tokens ≡ false → HasSmallNumbers tree
spelled_small _ _ _ (number digits) h =
    leb-false (2 ^ 63) (digits_value 10 digits) (or_parts (is_great (Number digits)) false h).0
spelled_small _ _ _ (register reg few) h = tt
spelled_small _ _ _ (enclosed tokens tree s) h =
    spelled_small 0 tokens tree s (front_small tokens (Symbol (codes ")") ∷ []) h).0
spelled_small _ _ _ (minus tokens tree s) h = spelled_small 5 tokens tree s h
spelled_small _ _ _ (not tokens tree s) h = spelled_small 5 tokens tree s h
spelled_small _ _ _ (two op lefts rights left right s t) h =
    let parts = front_small lefts (Symbol (signs_of op) ∷ rights) h in
    (spelled_small _ lefts left s parts.0, spelled_small _ rights right t parts.1)
spelled_small _ _ _ (stronger level tokens tree s) h = spelled_small _ tokens tree s h

form_small : (cut : TokenForm) (meant : MeantForm) → Means cut meant
    → is_out_of_range (tokens_of_form cut) meant ≡ false → NumbersAreSmall meant
form_small (Write var value) meant m h = rw m.2 (spelled_small 0 value m.0 m.1 (rw m.2 at h))
form_small (Add reg var value) meant m h = rw m.2 (spelled_small 0 value m.0 m.1 (rw m.2 at h))
form_small (Cas reg var old new) meant m h =
    let parts = front_small old (Symbol (codes ",") ∷ new) (rw m.4 at h) in
    rw m.4 (spelled_small 0 old m.0 m.2 parts.0, spelled_small 0 new m.1 m.3 parts.1)
form_small (Assert test) meant m h = rw m.2 (spelled_small 0 test m.0 m.1 (rw m.2 at h))
form_small (Set reg value) meant m h = rw m.2 (spelled_small 0 value m.0 m.1 (rw m.2 at h))
form_small (If test) meant m h = rw m.2 (spelled_small 0 test m.0 m.1 (rw m.2 at h))
form_small (While test) meant m h = rw m.2 (spelled_small 0 test m.0 m.1 (rw m.2 at h))
form_small cut meant m h = rw m tt

-- a form whose tokens are in range has small numbers alone
pub in_range_small : (version : ℕ) (tokens : List Token) (cut : TokenForm) (meant : MeantForm)
    → IsForm version tokens cut meant → is_out_of_range tokens meant ≡ false
    → NumbersAreSmall meant
in_range_small version tokens cut meant f h =
    form_small cut meant f.means
    (ap (λ (ts : List Token). is_out_of_range ts meant) (sym f.spelled) ∙ h)
