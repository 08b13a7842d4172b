-- The forms that a line may have, each with its tokens (this project).
use Rattle.std.specs.Prelude.{◌≡◌, ℕ, ℤ, pos, neg_ℤ, ◌<◌, ◌≤◌, Bool, true, false, if◌then◌else◌}
use Rattle.std.specs.Prelude.{List, [], ◌∷◌, ◌++◌, Option, Some, None, is_some, codes}
use Rattle.std.specs.Str.{bytes_eq}
use Rattle.std.specs.Str.Parse.{digits_value}
use Rattle.pct_ask.specs.Words.{is_name}
use Rattle.pct_ask.specs.Tokens.{Token, Word, Number, Symbol}
use Rattle.pct_ask.specs.declared.names.NameKind.{NameKind}
use Rattle.pct_ask.specs.declared.names.NameKind.TheVariants as kinds
use Rattle.pct_ask.specs.declared.statement_verbs.OnVerb.{OnVerb}
use Rattle.pct_ask.specs.declared.statement_verbs.IntoVerb.{IntoVerb}
use Rattle.pct_ask.specs.StatementVerbs.{on_word, on_since, into_word, into_since}
use Rattle.pct_ask.specs.Words.{register_word, register_count}
use Rattle.script_tree.specs.Trees.{Expression}
use Rattle.script_tree.specs.Expressions.{IsExpression}

-- What a line says: above the threads a declaration, with or without a first value; outside a
-- thread the beginning of one; inside a thread a statement, whose expressions are of this type.
pub data Form (E : Type 0) : Type 0 where
  Plain : (kind : NameKind) (name : List ℕ) → Form E
  Valued : (kind : NameKind) (name : List ℕ) (value : List Token) → Form E
  Thread : (name : List ℕ) → Form E
  On : (verb : OnVerb) (object : List ℕ) → Form E
  Into : (verb : IntoVerb) (register : ℕ) (object : List ℕ) → Form E
  Write : (var : List ℕ) (value : E) → Form E
  Add : (register : ℕ) (var : List ℕ) (value : E) → Form E
  Cas : (register : ℕ) (var : List ℕ) (old new : E) → Form E
  Wait : (cond mutex : List ℕ) → Form E
  Yield : Form E
  Assert : (test : E) → Form E
  Set : (register : ℕ) (value : E) → Form E
  If : (test : E) → Form E
  While : (test : E) → Form E
  End : Form E
  Else : Form E

-- a form as it stands in a line: its expressions are tokens
abbrev pub TokenForm : Type 0
TokenForm = Form (List Token)

-- a form as it is meant
abbrev pub MeantForm : Type 0
MeantForm = Form Expression

-- the keyword that declares a name of this kind
abbrev pub kind_word : NameKind → List ℕ
kind_word kinds.Thread = codes "thread"
kind_word kinds.Var = codes "var"
kind_word kinds.Mutex = codes "mutex"
kind_word kinds.Cond = codes "cond"
kind_word kinds.Sem = codes "sem"
kind_word kinds.Barrier = codes "barrier"
kind_word kinds.RwLock = codes "rwlock"

-- the kinds of objects that are declared with a first value
abbrev pub has_value : NameKind → Bool
has_value kinds.Thread = false
has_value kinds.Var = true
has_value kinds.Mutex = false
has_value kinds.Cond = false
has_value kinds.Sem = true
has_value kinds.Barrier = true
has_value kinds.RwLock = false

-- the kinds of objects that are declared by their name alone
abbrev pub is_plain : NameKind → Bool
is_plain kinds.Thread = false
is_plain kinds.Var = false
is_plain kinds.Mutex = true
is_plain kinds.Cond = true
is_plain kinds.Sem = false
is_plain kinds.Barrier = false
is_plain kinds.RwLock = true

-- the first version of the language that has this kind
abbrev pub kind_since : NameKind → ℕ
kind_since kinds.RwLock = 3
kind_since kind = 1

-- the tokens of a form
abbrev pub tokens_of_form : TokenForm → List Token
tokens_of_form (Plain kind name) = Word (kind_word kind) ∷ Word name ∷ []
tokens_of_form (Valued kind name value) =
    Word (kind_word kind) ∷ Word name ∷ Symbol (codes "=") ∷ value
tokens_of_form (Thread name) = Word (codes "thread") ∷ Word name ∷ []
tokens_of_form (On verb object) = Word (on_word verb) ∷ Word object ∷ []
tokens_of_form (Into verb register object) =
    Word (into_word verb) ∷ Word (register_word register) ∷ Word object ∷ []
tokens_of_form (Write var value) = Word (codes "write") ∷ Word var ∷ value
tokens_of_form (Add register var value) =
    Word (codes "add") ∷ Word (register_word register) ∷ Word var ∷ value
tokens_of_form (Cas register var old new) =
    Word (codes "cas") ∷ Word (register_word register) ∷ Word var
    ∷ (old ++ Symbol (codes ",") ∷ new)
tokens_of_form (Wait cond mutex) = Word (codes "wait") ∷ Word cond ∷ Word mutex ∷ []
tokens_of_form Yield = Word (codes "yield") ∷ []
tokens_of_form (Assert test) = Word (codes "assert") ∷ test
tokens_of_form (Set register value) = Word (codes "set") ∷ Word (register_word register) ∷ value
tokens_of_form (If test) = Word (codes "if") ∷ test
tokens_of_form (While test) = Word (codes "while") ∷ test
tokens_of_form End = Word (codes "end") ∷ []
tokens_of_form Else = Word (codes "else") ∷ []

-- the first value that tokens stand for: digits in base ten, for a variable also with a `-` before
-- them
abbrev pub value_in : NameKind → List Token → Option ℤ
value_in kind (Number digits ∷ []) = Some (pos (digits_value 10 digits))
value_in kinds.Var (Symbol signs ∷ Number digits ∷ []) =
    if bytes_eq signs (codes "-") then Some (neg_ℤ (pos (digits_value 10 digits))) else None
value_in kind tokens = None

-- A form in a line means this one, whose expressions its tokens spell.
abbrev pub Means : TokenForm → MeantForm → Type 0
Means (Write var value) meant =
    (tree : Expression) × IsExpression value tree × (meant ≡ Write var tree)
Means (Add register var value) meant =
    (tree : Expression) × IsExpression value tree × (meant ≡ Add register var tree)
Means (Cas register var old new) meant =
    (a : Expression)
    × (b : Expression)
    × IsExpression old a
    × IsExpression new b
    × (meant ≡ Cas register var a b)
Means (Assert test) meant = (tree : Expression) × IsExpression test tree × (meant ≡ Assert tree)
Means (Set register value) meant =
    (tree : Expression) × IsExpression value tree × (meant ≡ Set register tree)
Means (If test) meant = (tree : Expression) × IsExpression test tree × (meant ≡ If tree)
Means (While test) meant = (tree : Expression) × IsExpression test tree × (meant ≡ While tree)
Means (Plain kind name) meant = meant ≡ Plain kind name
Means (Valued kind name value) meant = meant ≡ Valued kind name value
Means (Thread name) meant = meant ≡ Thread name
Means (On verb object) meant = meant ≡ On verb object
Means (Into verb register object) meant = meant ≡ Into verb register object
Means (Wait cond mutex) meant = meant ≡ Wait cond mutex
Means Yield meant = meant ≡ Yield
Means End meant = meant ≡ End
Means Else meant = meant ≡ Else

-- the word may be a name in this version of the language
abbrev pub IsNameIn : ℕ → List ℕ → Type 0
IsNameIn version name = is_name version name ≡ true

-- what a version of the language asks of a form: it has the form, and the form's names are names
abbrev pub IsFormOf : ℕ → TokenForm → Type 0
IsFormOf version (Plain kind name) =
    (is_plain kind ≡ true) × (kind_since kind ≤ version) × IsNameIn version name
IsFormOf version (Valued kind name value) =
    (has_value kind ≡ true) × IsNameIn version name × (is_some (value_in kind value) ≡ true)
IsFormOf version (Thread name) = IsNameIn version name
IsFormOf version (On verb object) = (on_since verb ≤ version) × IsNameIn version object
IsFormOf version (Into verb register object) =
    (into_since verb ≤ version) × (register < register_count) × IsNameIn version object
IsFormOf version (Write var value) = IsNameIn version var
IsFormOf version (Add register var value) = (register < register_count) × IsNameIn version var
IsFormOf version (Cas register var old new) = (register < register_count) × IsNameIn version var
IsFormOf version (Wait cond mutex) = IsNameIn version cond × IsNameIn version mutex
IsFormOf version Yield = Unit {0}
IsFormOf version (Assert test) = Unit {0}
IsFormOf version (Set register value) = register < register_count
IsFormOf version (If test) = Unit {0}
IsFormOf version (While test) = Unit {0}
IsFormOf version End = Unit {0}
IsFormOf version Else = Unit {0}

-- These tokens are a line of this form, which means that one.
pub record IsForm (version : ℕ) (tokens : List Token) (cut : TokenForm) (meant : MeantForm)
    : Type 0 where
  pub spelled : tokens ≡ tokens_of_form cut
  pub of : IsFormOf version cut
  pub means : Means cut meant
