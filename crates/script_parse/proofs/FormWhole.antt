-- Tokens of a form are read as it.
use Rattle.std.proofs.Common.{◌≡◌, ℕ, suc, ◌+◌, ◌<◌, ◌≤◌, true, false, length, List, [], ◌∷◌, ◌++◌}
use Rattle.std.proofs.Common.{Some, None, refl, sym, ap, ◌∙◌, arith, drop}
use Rattle.std.specs.Prelude.{not as flip, codes}
use Rattle.std.specs.List.{position, list_any}
use Rattle.std.specs.Option.{option_map}
use Rattle.std.specs.Str.{bytes_eq}
use Rattle.std.proofs.lemmas.Bool.{le-leb, lt-ltb, or_parts}
use Rattle.std.proofs.lemmas.List.Folds.{list_any-append}
use Rattle.std.proofs.Math.Numerals.{one-add}
use Rattle.std.specs.List.{prefix_len}
use Rattle.std.proofs.Math.Seq.{take-append_seam, drop-append-add}
use Rattle.std.proofs.Common.{length-append}
use Rattle.pct_ask.specs.Words.{is_name}
use Rattle.pct_ask.specs.Tokens.{Token, Symbol}
use Rattle.pct_ask.specs.declared.names.NameKind.{NameKind}
use Rattle.pct_ask.specs.declared.names.NameKind.TheVariants as kinds
use Rattle.pct_ask.specs.declared.statement_verbs.OnVerb.{OnVerb}
use Rattle.pct_ask.specs.declared.statement_verbs.OnVerb.TheVariants.{Lock}
use Rattle.pct_ask.specs.declared.statement_verbs.IntoVerb.{IntoVerb}
use Rattle.pct_ask.specs.declared.statement_verbs.IntoVerb.TheVariants.{Read}
use Rattle.pct_ask.specs.StatementVerbs.{on_word, into_word, on_since, into_since, on_verb_in}
use Rattle.pct_ask.specs.StatementVerbs.{into_verb_in}
use Rattle.script_tree.specs.declared.expr.Op.{Op}
use Rattle.script_tree.specs.declared.expr.Op.TheVariants as ops
use Rattle.script_tree.specs.Trees.{Expression}
use Rattle.script_tree.specs.Expressions.{IsSpelled, number, register, enclosed, minus, not, two}
use Rattle.script_tree.specs.Expressions.{stronger, signs_of}
use Rattle.script_tree.specs.Forms.{TokenForm, MeantForm, Plain, Valued, Thread, On, Into, Write}
use Rattle.script_tree.specs.Forms.{Add, Cas, Wait, Yield, Assert, Set, If, While, End, Else}
use Rattle.script_tree.specs.Forms.{kind_word, is_plain, kind_since, tokens_of_form, IsForm}
use Rattle.script_tree.specs.Forms.{IsFormOf, Means}
use Rattle.pct_ask.specs.NameLists.{kind_in}
use Rattle.script_parse.specs.Saying.{is_comma, parts_at, lone_form, form_in}
use Rattle.script_parse.proofs.Choices.{some}
use Rattle.script_parse.proofs.FirstValues.{value_is_read}
use Rattle.script_parse.proofs.ExpressionWhole.{expression_is_read, register_read}

on_verb_at : (verb : OnVerb) → on_verb_in (on_word verb) ≡ Some verb
on_verb_at Lock = refl
on_verb_at verb = refl

into_verb_at : (verb : IntoVerb) → (on_verb_in (into_word verb) ≡ None)
    × (into_verb_in (into_word verb) ≡ Some verb)
into_verb_at Read = (refl, refl)
into_verb_at verb = (refl, refl)

kind_at : (kind : NameKind) → (on_verb_in (kind_word kind) ≡ None)
    × (into_verb_in (kind_word kind) ≡ None) × (kind_in (kind_word kind) ≡ Some kind)
kind_at kinds.Thread = (refl, refl, refl)
kind_at kind = (refl, refl, refl)

plain_is_read : (version : ℕ) (kind : NameKind) (name : List ℕ) → is_plain kind ≡ true
    → kind_since kind ≤ version → is_name version name ≡ true
    → lone_form version kind name ≡ Some (Plain kind name)
plain_is_read version kinds.Mutex name plain since named = rw (le-leb 1 version since, named) refl
plain_is_read version kinds.Cond name plain since named = rw (le-leb 1 version since, named) refl
plain_is_read version kinds.RwLock name plain since named = rw (le-leb 3 version since, named) refl
plain_is_read version kind name plain since named = absurd cc

-- ---- no comma stands in an expression

no_comma_sign : (op : Op) → bytes_eq (signs_of op) (codes ",") ≡ false
no_comma_sign ops.Or = refl
no_comma_sign op = refl

pub no_comma : (level : ℕ) (tokens : List Token) (tree : Expression) → IsSpelled level tokens tree
    → list_any is_comma tokens ≡ false
no_comma _ _ _ (number digits) = refl
no_comma _ _ _ (register reg few) = refl
no_comma _ _ _ (enclosed tokens tree h) =
    list_any-append is_comma tokens (Symbol (codes ")") ∷ []) ∙ rw (no_comma 0 tokens tree h) refl
no_comma _ _ _ (minus tokens tree h) = no_comma 5 tokens tree h
no_comma _ _ _ (not tokens tree h) = no_comma 5 tokens tree h
no_comma _ _ _ (two op lefts rights left right hl hr) =
    list_any-append is_comma lefts (Symbol (signs_of op) ∷ rights)
    ∙ rw (no_comma _ lefts left hl, no_comma_sign op) (no_comma _ rights right hr)
no_comma _ _ _ (stronger level tokens tree h) = no_comma _ tokens tree h

commas_apart : (front back : List Token) → list_any is_comma front ≡ false
    → prefix_len (λ t. flip (is_comma t)) (front ++ Symbol (codes ",") ∷ back) ≡ length front
commas_apart [] back h = refl
commas_apart (token ∷ front) back h =
    let parts = or_parts (is_comma token) (list_any is_comma front) h in
    rw (parts.0, one-add) (ap (λ (n : ℕ). suc n) (commas_apart front back parts.1))

-- where no token of the front is a comma, the comma behind it is the first
first_comma : (front back : List Token) → list_any is_comma front ≡ false
    → parts_at (position is_comma (front ++ Symbol (codes ",") ∷ back))
    (front ++ Symbol (codes ",") ∷ back) ≡ Some (front, back)
first_comma front back h =
    let all : List Token = front ++ Symbol (codes ",") ∷ back in
    let few : length front < length all =
    omega (arith, length-append front (Symbol (codes ",") ∷ back)) in
    let behind : drop (length front + 1) all ≡ back =
    drop-append-add front (Symbol (codes ",") ∷ back) 1 in
    rw (
      commas_apart front back h,
      lt-ltb (length front) (length all) few,
      take-append_seam front (Symbol (codes ",") ∷ back),
      behind,
    ) refl

-- ---- a form's tokens

form_is_read : (version : ℕ) (cut : TokenForm) (meant : MeantForm) → IsFormOf version cut
    → Means cut meant → form_in version (tokens_of_form cut) ≡ Some meant
form_is_read version (Plain kind name) meant of means =
    rw ((kind_at kind).0, (kind_at kind).1, (kind_at kind).2)
    (plain_is_read version kind name of.0 of.1 of.2 ∙ ap some (sym means))
form_is_read version (Valued kind name value) meant of means =
    rw ((kind_at kind).0, (kind_at kind).1, (kind_at kind).2, of.0, of.1)
    (ap (option_map (Valued kind name)) (value_is_read kind value of.2) ∙ ap some (sym means))
form_is_read version (Thread name) meant of means = rw of (ap some (sym means))
form_is_read version (On verb object) meant of means =
    rw (on_verb_at verb, le-leb (on_since verb) version of.0, of.1) (ap some (sym means))
form_is_read version (Into verb reg object) meant of means =
    rw (
      (into_verb_at verb).0,
      (into_verb_at verb).1,
      le-leb (into_since verb) version of.0,
      of.2,
      register_read reg of.1,
    ) (ap some (sym means))
form_is_read version (Write var value) meant of means =
    rw (of, expression_is_read value means.0 means.1) (ap some (sym means.2))
form_is_read version (Add reg var value) meant of means =
    rw (of.1, register_read reg of.0, expression_is_read value means.0 means.1)
    (ap some (sym means.2))
form_is_read version (Cas reg var old new) meant of means =
    rw (
      of.1,
      register_read reg of.0,
      first_comma old new (no_comma 0 old means.0 means.2),
      expression_is_read old means.0 means.2,
      expression_is_read new means.1 means.3,
    ) (ap some (sym means.4))
form_is_read version (Wait waiting mutex) meant of means = rw (of.0, of.1) (ap some (sym means))
form_is_read version Yield meant of means = ap some (sym means)
form_is_read version (Assert test) meant of means =
    rw (expression_is_read test means.0 means.1) (ap some (sym means.2))
form_is_read version (Set reg value) meant of means =
    rw (register_read reg of, expression_is_read value means.0 means.1) (ap some (sym means.2))
form_is_read version (If test) meant of means =
    rw (expression_is_read test means.0 means.1) (ap some (sym means.2))
form_is_read version (While test) meant of means =
    rw (expression_is_read test means.0 means.1) (ap some (sym means.2))
form_is_read version End meant of means = ap some (sym means)
form_is_read version Else meant of means = ap some (sym means)

-- the tokens of a form are read as it
pub form_read : (version : ℕ) (tokens : List Token) (cut : TokenForm) (meant : MeantForm)
    → IsForm version tokens cut meant → form_in version tokens ≡ Some meant
form_read version tokens cut meant f =
    ap (form_in version) f.spelled ∙ form_is_read version cut meant f.of f.means
