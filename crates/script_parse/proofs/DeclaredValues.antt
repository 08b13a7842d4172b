-- First values and threads that lines declare.
use Rattle.std.proofs.Common.{◌≡◌, ℕ, false, List, [], ◌∷◌, ◌++◌, None, refl, sym, ◌∙◌}
use Rattle.std.specs.Prelude.{codes}
use Rattle.std.specs.Str.{bytes_eq}
use Rattle.std.proofs.lemmas.List.{append-nil}
use Rattle.std.proofs.lemmas.List.Elements.{filter_map-append}
use Rattle.pct_ask.specs.Tokens.{Token, Word, Symbol}
use Rattle.pct_ask.specs.declared.names.NameKind.{NameKind}
use Rattle.pct_ask.specs.declared.names.NameKind.TheVariants as kinds
use Rattle.script_tree.specs.Forms.{kind_word}
use Rattle.script_tree.specs.Lines.{declared_value, values_of, just_thread}
use Rattle.script_parse.specs.Part.{ReadPart}

pub valueless_at : (word : List ℕ) (rest : List Token) (kind : NameKind)
    → bytes_eq word (kind_word kind) ≡ false → declared_value kind (Word word ∷ rest) ≡ None
valueless_at word [] kind h = refl
valueless_at word (Word name ∷ []) kind h = refl
valueless_at word (Word name ∷ Symbol signs ∷ rest) kind h = rw h refl
valueless_at word (Word name ∷ Word other ∷ rest) kind h = refl
valueless_at word rest kind h = refl

pub threadless_at : (word : List ℕ) (rest : List Token) → bytes_eq word (codes "thread") ≡ false
    → just_thread (Word word ∷ rest) ≡ None
threadless_at word [] h = refl
threadless_at word (Word name ∷ []) h = rw h refl
threadless_at word (Word name ∷ Word other ∷ rest) h = refl
threadless_at word rest h = refl

pub values_push : (kind : NameKind) (lines : List (List Token)) (line : List Token)
    → values_of kind (lines ++ line ∷ []) ≡ values_of kind lines ++ values_of kind (line ∷ [])
values_push kind lines line = filter_map-append (declared_value kind) lines (line ∷ [])

-- the values of the declarations of lines
pub record AreValues (part : ReadPart) (lines : List (List Token)) : Type 0 where
  pub vars : values_of kinds.Var lines ≡ part.vars
  pub sems : values_of kinds.Sem lines ≡ part.sems
  pub barriers : values_of kinds.Barrier lines ≡ part.barriers

-- a line without a first value
pub no_value_more : (part next : ReadPart) (lines : List (List Token)) (line : List Token)
    → ((kind : NameKind) → declared_value kind line ≡ None) → next.vars ≡ part.vars
    → next.sems ≡ part.sems → next.barriers ≡ part.barriers → AreValues part lines
    → AreValues next (lines ++ line ∷ [])
no_value_more part next lines line none v s b h = record {
  vars =
      values_push kinds.Var lines line
      ∙ rw (none kinds.Var) (append-nil (values_of kinds.Var lines) ∙ h.vars ∙ sym v);
  sems =
      values_push kinds.Sem lines line
      ∙ rw (none kinds.Sem) (append-nil (values_of kinds.Sem lines) ∙ h.sems ∙ sym s);
  barriers =
      values_push kinds.Barrier lines line
      ∙ rw (none kinds.Barrier) (append-nil (values_of kinds.Barrier lines) ∙ h.barriers ∙ sym b);
}

pub blank_values : (part : ReadPart) (lines : List (List Token)) → AreValues part lines
    → AreValues part (lines ++ [] ∷ [])
blank_values part lines h = no_value_more part part lines [] (λ kind. refl) refl refl refl h
