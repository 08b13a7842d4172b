-- Facts about a form in a line and what it means, by the kinds of forms.
use Rattle.std.proofs.Common.{ℕ, List, sym, subst}
use Rattle.pct_ask.specs.Tokens.{Token}
use Rattle.pct_ask.specs.declared.names.NameKind.{NameKind}
use Rattle.pct_ask.specs.declared.statement_verbs.OnVerb.{OnVerb}
use Rattle.pct_ask.specs.declared.statement_verbs.IntoVerb.{IntoVerb}
use Rattle.script_tree.specs.Trees.{Expression}
use Rattle.script_tree.specs.Forms.{TokenForm, MeantForm, Plain, Valued, Thread, On, Into, Write}
use Rattle.script_tree.specs.Forms.{Add, Cas, Wait, Yield, Assert, Set, If, While, End, Else, Means}

-- what is shown of each form with its meaning
pub record ForEach (P : TokenForm → MeantForm → Type 0) : Type 1 where
  pub plain : (kind : NameKind) (name : List ℕ) → P (Plain kind name) (Plain kind name)
  pub valued : (kind : NameKind) (name : List ℕ) (value : List Token)
      → P (Valued kind name value) (Valued kind name value)
  pub thread : (name : List ℕ) → P (Thread name) (Thread name)
  pub on : (verb : OnVerb) (object : List ℕ) → P (On verb object) (On verb object)
  pub into : (verb : IntoVerb) (reg : ℕ) (object : List ℕ)
      → P (Into verb reg object) (Into verb reg object)
  pub write : (var : List ℕ) (value : List Token) (tree : Expression)
      → P (Write var value) (Write var tree)
  pub add : (reg : ℕ) (var : List ℕ) (value : List Token) (tree : Expression)
      → P (Add reg var value) (Add reg var tree)
  pub cas : (reg : ℕ) (var : List ℕ) (old new : List Token) (a b : Expression)
      → P (Cas reg var old new) (Cas reg var a b)
  pub wait : (waiting mutex : List ℕ) → P (Wait waiting mutex) (Wait waiting mutex)
  pub yield : P Yield Yield
  pub assert : (test : List Token) (tree : Expression) → P (Assert test) (Assert tree)
  pub set : (reg : ℕ) (value : List Token) (tree : Expression) → P (Set reg value) (Set reg tree)
  pub when : (test : List Token) (tree : Expression) → P (If test) (If tree)
  pub while : (test : List Token) (tree : Expression) → P (While test) (While tree)
  pub end : P End End
  pub otherwise : P Else Else

pub by_meaning : (P : TokenForm → MeantForm → Type 0) → ForEach P
    → (cut : TokenForm) (meant : MeantForm) → Means cut meant → P cut meant
by_meaning P f (Plain kind name) meant m = subst (P (Plain kind name)) (sym m) (f.plain kind name)
by_meaning P f (Valued kind name value) meant m =
    subst (P (Valued kind name value)) (sym m) (f.valued kind name value)
by_meaning P f (Thread name) meant m = subst (P (Thread name)) (sym m) (f.thread name)
by_meaning P f (On verb object) meant m = subst (P (On verb object)) (sym m) (f.on verb object)
by_meaning P f (Into verb reg object) meant m =
    subst (P (Into verb reg object)) (sym m) (f.into verb reg object)
by_meaning P f (Write var value) meant m =
    subst (P (Write var value)) (sym m.2) (f.write var value m.0)
by_meaning P f (Add reg var value) meant m =
    subst (P (Add reg var value)) (sym m.2) (f.add reg var value m.0)
by_meaning P f (Cas reg var old new) meant m =
    subst (P (Cas reg var old new)) (sym m.4) (f.cas reg var old new m.0 m.1)
by_meaning P f (Wait waiting mutex) meant m =
    subst (P (Wait waiting mutex)) (sym m) (f.wait waiting mutex)
by_meaning P f Yield meant m = subst (P Yield) (sym m) f.yield
by_meaning P f (Assert test) meant m = subst (P (Assert test)) (sym m.2) (f.assert test m.0)
by_meaning P f (Set reg value) meant m = subst (P (Set reg value)) (sym m.2) (f.set reg value m.0)
by_meaning P f (If test) meant m = subst (P (If test)) (sym m.2) (f.when test m.0)
by_meaning P f (While test) meant m = subst (P (While test)) (sym m.2) (f.while test m.0)
by_meaning P f End meant m = subst (P End) (sym m) f.end
by_meaning P f Else meant m = subst (P Else) (sym m) f.otherwise
