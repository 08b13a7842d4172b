-- What a printed line says: its tokens are those of a form that means what was printed.
use Rattle.std.proofs.Common.{◌≡◌, ℕ, ◌<◌, ◌≤◌, true, false, List, [], ◌∷◌, ◌++◌, refl, ap, ◌∙◌}
use Rattle.std.proofs.Common.{append_assoc, subst}
use Rattle.std.specs.Prelude.{codes, not, ◌&&◌, is_some, unwrap_or}
use Rattle.std.specs.List.{flat_map}
use Rattle.std.proofs.lemmas.Bool.{and_parts}
use Rattle.pct_ask.specs.Words.{is_word, is_among, keywords, registers}
use Rattle.pct_ask.specs.Tokens.{Token, Word, Symbol}
use Rattle.pct_ask.specs.declared.names.NameKind.{NameKind}
use Rattle.pct_ask.specs.declared.names.NameKind.TheVariants as kinds
use Rattle.pct_ask.specs.Words.{register_word}
use Rattle.pct_ask.specs.declared.statement_verbs.OnVerb.TheVariants as on_verbs
use Rattle.pct_ask.specs.declared.statement_verbs.IntoVerb.TheVariants as into_verbs
use Rattle.pct_ask.specs.StatementVerbs.{on_word, into_word, on_since, into_since}
use Rattle.pct_ask.specs.declared.statement_verbs.OnVerb.{OnVerb}
use Rattle.pct_ask.specs.declared.statement_verbs.IntoVerb.{IntoVerb}
use Rattle.script_tree.specs.Forms.{TokenForm, MeantForm, Plain, Valued, Thread, On, Into, Write}
use Rattle.script_tree.specs.Forms.{Add, Cas, Wait, Yield, Assert, Set, If, While, End, Else}
use Rattle.script_tree.specs.Forms.{kind_word, kind_since, has_value, is_plain, value_in}
use Rattle.script_tree.specs.Forms.{tokens_of_form, Means, IsNameIn, IsFormOf}
use Rattle.script_tree.specs.Forms as forms
use Rattle.script_tree.specs.Lines.{tokens_in}
use Rattle.script_tree.specs.Ranges.{is_great, value_fits, is_out_of_range}
use Rattle.script_tree.specs.Grammar.{Says}
use Rattle.script_tree.specs.Layout.{token_text, expression_text, form_text}
use Rattle.script_tree.proofs.Cuts.{IsCut, word_cut, spaced_cut, comma_cut, whole_cut}
use Rattle.script_tree.proofs.ExpressionCuts.{expression_tokens, IsGood, register_is_word}
use Rattle.script_tree.proofs.ExpressionCuts.{expression_cut, equals_cut, is_expression, any-append}
use Rattle.script_tree.proofs.ExpressionCuts.{not_great}

-- the form of a printed line, with its tokens
abbrev pub printed_form : MeantForm → TokenForm
printed_form (Plain kind name) = Plain kind name
printed_form (Valued kind name value) = Valued kind name value
printed_form (Thread name) = Thread name
printed_form (On verb object) = On verb object
printed_form (Into verb register object) = Into verb register object
printed_form (Write var value) = Write var (expression_tokens value)
printed_form (Add register var value) = Add register var (expression_tokens value)
printed_form (Cas register var old new) =
    Cas register var (expression_tokens old) (expression_tokens new)
printed_form (Wait cond mutex) = Wait cond mutex
printed_form Yield = Yield
printed_form (Assert test) = Assert (expression_tokens test)
printed_form (Set register value) = Set register (expression_tokens value)
printed_form (If test) = If (expression_tokens test)
printed_form (While test) = While (expression_tokens test)
printed_form End = End
printed_form Else = Else

-- a first value that an object of this kind may have
pub record IsGoodValue (kind : NameKind) (value : List Token) : Type 0 where
  pub cut : IsCut (flat_map token_text value) value
  pub read : is_some (value_in kind value) ≡ true
  pub fits : value_fits kind value ≡ true

-- what a version of the language asks of a line
abbrev pub Fits : ℕ → MeantForm → Type 0
Fits version (Plain kind name) =
    (is_plain kind ≡ true) × (kind_since kind ≤ version) × IsNameIn version name
Fits version (Valued kind name value) =
    (has_value kind ≡ true) × IsNameIn version name × IsGoodValue kind value
Fits version (Thread name) = IsNameIn version name
Fits version (On verb object) = (on_since verb ≤ version) × IsNameIn version object
Fits version (Into verb register object) =
    (into_since verb ≤ version) × (register < 16) × IsNameIn version object
Fits version (Write var value) = IsNameIn version var × IsGood value
Fits version (Add register var value) = (register < 16) × IsNameIn version var × IsGood value
Fits version (Cas register var old new) =
    (register < 16) × IsNameIn version var × IsGood old × IsGood new
Fits version (Wait cond mutex) = IsNameIn version cond × IsNameIn version mutex
Fits version Yield = Unit {0}
Fits version (Assert test) = IsGood test
Fits version (Set register value) = (register < 16) × IsGood value
Fits version (If test) = IsGood test
Fits version (While test) = IsGood test
Fits version End = Unit {0}
Fits version Else = Unit {0}

-- ---- words

name_is_word : (version : ℕ) (name : List ℕ) → IsNameIn version name → is_word name ≡ true
name_is_word version name lawful =
    (and_parts (is_word name) (not (is_among name (keywords version)))
    (and_parts (is_word name && not (is_among name (keywords version)))
    (not (is_among name registers)) lawful).0).0

name_cut : (version : ℕ) (name : List ℕ) → IsNameIn version name → IsCut name (Word name ∷ [])
name_cut version name lawful = word_cut name (name_is_word version name lawful)

on_is_word : (verb : OnVerb) → is_word (on_word verb) ≡ true
on_is_word on_verbs.Lock = refl
on_is_word verb = refl

into_is_word : (verb : IntoVerb) → is_word (into_word verb) ≡ true
into_is_word into_verbs.Read = refl
into_is_word verb = refl

kind_is_word : (kind : NameKind) → is_word (kind_word kind) ≡ true
kind_is_word kinds.Thread = refl
kind_is_word kinds.Var = refl
kind_is_word kinds.Mutex = refl
kind_is_word kinds.Cond = refl
kind_is_word kinds.Sem = refl
kind_is_word kinds.Barrier = refl
kind_is_word kinds.RwLock = refl

-- ---- lines

-- a word and what follows it
then : (word rest : List ℕ) (tokens : List Token) → is_word word ≡ true → IsCut rest tokens
    → IsCut (word ++ 32 ∷ rest) (Word word ∷ tokens)
then word rest tokens w cut = spaced_cut word rest (Word word ∷ []) tokens (word_cut word w) cut

then_name : (version : ℕ) (name rest : List ℕ) (tokens : List Token) → IsNameIn version name
    → IsCut rest tokens → IsCut (name ++ 32 ∷ rest) (Word name ∷ tokens)
then_name version name rest tokens lawful cut =
    then name rest tokens (name_is_word version name lawful) cut

then_register : (register : ℕ) (rest : List ℕ) (tokens : List Token) → register < 16
    → IsCut rest tokens → IsCut (register_word register ++ 32 ∷ rest)
    (Word (register_word register) ∷ tokens)
then_register register rest tokens within cut =
    then (register_word register) rest tokens (register_is_word register within) cut

-- how the text of a line is cut
pub form_cut : (version : ℕ) (meant : MeantForm) → Fits version meant
    → IsCut (form_text meant) (tokens_of_form (printed_form meant))
form_cut version (Plain kind name) fits =
    then (kind_word kind) name (Word name ∷ []) (kind_is_word kind) (name_cut version name fits.2)
form_cut version (Valued kind name value) fits =
    let text : List ℕ = flat_map token_text value in
    let signed : IsCut (codes "=" ++ 32 ∷ text) (Symbol (codes "=") ∷ value) =
    spaced_cut (codes "=") text (Symbol (codes "=") ∷ []) value equals_cut fits.2.cut in
    then (kind_word kind) (name ++ 32 ∷ (codes "=" ++ 32 ∷ text))
    (Word name ∷ Symbol (codes "=") ∷ value) (kind_is_word kind)
    (then_name version name (codes "=" ++ 32 ∷ text) (Symbol (codes "=") ∷ value) fits.1 signed)
form_cut version (Thread name) fits =
    then (codes "thread") name (Word name ∷ []) refl (name_cut version name fits)
form_cut version (On verb object) fits =
    then (on_word verb) object (Word object ∷ []) (on_is_word verb) (name_cut version object fits.1)
form_cut version (Into verb register object) fits =
    then (into_word verb) (register_word register ++ 32 ∷ object)
    (Word (register_word register) ∷ Word object ∷ []) (into_is_word verb)
    (then_register register object (Word object ∷ []) fits.1 (name_cut version object fits.2))
form_cut version (Write var value) fits =
    then (codes "write") (var ++ 32 ∷ expression_text value) (Word var ∷ expression_tokens value)
    refl
    (then_name version var (expression_text value) (expression_tokens value) fits.0
    (expression_cut value fits.1))
form_cut version (Add register var value) fits =
    then (codes "add") (register_word register ++ 32 ∷ (var ++ 32 ∷ expression_text value))
    (Word (register_word register) ∷ Word var ∷ expression_tokens value) refl
    (then_register register (var ++ 32 ∷ expression_text value) (Word var ∷ expression_tokens value)
    fits.0
    (then_name version var (expression_text value) (expression_tokens value) fits.1
    (expression_cut value fits.2)))
form_cut version (Cas register var old new) fits =
    let first : List ℕ = expression_text old ++ codes "," in
    let both : IsCut (first ++ 32 ∷ expression_text new)
    ((expression_tokens old ++ Symbol (codes ",") ∷ []) ++ expression_tokens new) =
    spaced_cut first (expression_text new) (expression_tokens old ++ Symbol (codes ",") ∷ [])
    (expression_tokens new) (comma_cut (expression_text old) (expression_tokens old)
    (expression_cut old fits.2)) (expression_cut new fits.3) in
    let same : (expression_tokens old ++ Symbol (codes ",") ∷ []) ++ expression_tokens new
    ≡ expression_tokens old ++ Symbol (codes ",") ∷ expression_tokens new =
    append_assoc (expression_tokens old) (Symbol (codes ",") ∷ []) (expression_tokens new) in
    let tokens : List Token = expression_tokens old ++ Symbol (codes ",") ∷ expression_tokens new in
    then (codes "cas") (register_word register ++ 32
    ∷ (var ++ 32 ∷ (first ++ 32 ∷ expression_text new)))
    (Word (register_word register) ∷ Word var ∷ tokens) refl
    (then_register register (var ++ 32 ∷ (first ++ 32 ∷ expression_text new)) (Word var ∷ tokens)
    fits.0
    (then_name version var (first ++ 32 ∷ expression_text new) tokens fits.1
    (subst (IsCut (first ++ 32 ∷ expression_text new)) same both)))
form_cut version (Wait cond mutex) fits =
    then (codes "wait") (cond ++ 32 ∷ mutex) (Word cond ∷ Word mutex ∷ []) refl
    (then_name version cond mutex (Word mutex ∷ []) fits.0 (name_cut version mutex fits.1))
form_cut version Yield fits = word_cut (codes "yield") refl
form_cut version (Assert test) fits =
    then (codes "assert") (expression_text test) (expression_tokens test) refl
    (expression_cut test fits)
form_cut version (Set register value) fits =
    then (codes "set") (register_word register ++ 32 ∷ expression_text value)
    (Word (register_word register) ∷ expression_tokens value) refl
    (then_register register (expression_text value) (expression_tokens value) fits.0
    (expression_cut value fits.1))
form_cut version (If test) fits =
    then (codes "if") (expression_text test) (expression_tokens test) refl
    (expression_cut test fits)
form_cut version (While test) fits =
    then (codes "while") (expression_text test) (expression_tokens test) refl
    (expression_cut test fits)
form_cut version End fits = word_cut (codes "end") refl
form_cut version Else fits = word_cut (codes "else") refl

pub form_tokens : (version : ℕ) (meant : MeantForm) → Fits version meant
    → tokens_in (form_text meant) ≡ tokens_of_form (printed_form meant)
form_tokens version meant fits =
    ap (λ tokens. unwrap_or tokens [])
    (whole_cut (form_text meant) (tokens_of_form (printed_form meant))
    (form_cut version meant fits))

-- what the version asks of the form
is_of : (version : ℕ) (meant : MeantForm) → Fits version meant
    → IsFormOf version (printed_form meant)
is_of version (Plain kind name) fits = fits
is_of version (Valued kind name value) fits = (fits.0, fits.1, fits.2.read)
is_of version (Thread name) fits = fits
is_of version (On verb object) fits = fits
is_of version (Into verb register object) fits = fits
is_of version (Write var value) fits = fits.0
is_of version (Add register var value) fits = (fits.0, fits.1)
is_of version (Cas register var old new) fits = (fits.0, fits.1)
is_of version (Wait cond mutex) fits = fits
is_of version Yield fits = tt
is_of version (Assert test) fits = tt
is_of version (Set register value) fits = fits.0
is_of version (If test) fits = tt
is_of version (While test) fits = tt
is_of version End fits = tt
is_of version Else fits = tt

-- what the form means
means : (version : ℕ) (meant : MeantForm) → Fits version meant → Means (printed_form meant) meant
means version (Plain kind name) fits = refl
means version (Valued kind name value) fits = refl
means version (Thread name) fits = refl
means version (On verb object) fits = refl
means version (Into verb register object) fits = refl
means version (Write var value) fits = (value, is_expression value fits.1, refl)
means version (Add register var value) fits = (value, is_expression value fits.2, refl)
means version (Cas register var old new) fits =
    (old, new, is_expression old fits.2, is_expression new fits.3, refl)
means version (Wait cond mutex) fits = refl
means version Yield fits = refl
means version (Assert test) fits = (test, is_expression test fits, refl)
means version (Set register value) fits = (value, is_expression value fits.1, refl)
means version (If test) fits = (test, is_expression test fits, refl)
means version (While test) fits = (test, is_expression test fits, refl)
means version End fits = refl
means version Else fits = refl

in_range : (version : ℕ) (meant : MeantForm) → Fits version meant
    → is_out_of_range (tokens_of_form (printed_form meant)) meant ≡ false
in_range version (Plain kind name) fits = refl
in_range version (Valued kind name value) fits = ap not fits.2.fits
in_range version (Thread name) fits = refl
in_range version (On verb object) fits = refl
in_range version (Into verb register object) fits = refl
in_range version (Write var value) fits = not_great value fits.1
in_range version (Add register var value) fits = not_great value fits.2
in_range version (Cas register var old new) fits =
    any-append is_great (expression_tokens old) (Symbol (codes ",") ∷ expression_tokens new)
    (not_great old fits.2) (not_great new fits.3)
in_range version (Wait cond mutex) fits = refl
in_range version Yield fits = refl
in_range version (Assert test) fits = not_great test fits
in_range version (Set register value) fits = not_great value fits.1
in_range version (If test) fits = not_great test fits
in_range version (While test) fits = not_great test fits
in_range version End fits = refl
in_range version Else fits = refl

-- the line says what was printed
pub form_says : (version : ℕ) (meant : MeantForm) → Fits version meant
    → Says version (form_text meant) meant
form_says version meant fits = (
  printed_form meant,
  record {
    spelled = form_tokens version meant fits;
    of = is_of version meant fits;
    means = means version meant fits;
  },
  ap (λ tokens. is_out_of_range tokens meant) (form_tokens version meant fits)
      ∙ in_range version meant fits,
)
