-- The names and first values that the printed lines declare are the script's.
use Rattle.std.proofs.Common.{◌≡◌, ℕ, Bool, true, false, cond, List, [], ◌∷◌, ◌++◌, length, map}
use Rattle.std.proofs.Common.{Some, None, refl, ap, ◌∙◌, arith}
use Rattle.std.specs.Prelude.{ℤ, codes, ◌&&◌, not}
use Rattle.std.specs.Str.{bytes_eq}
use Rattle.std.proofs.lemmas.List.{map-append, append-nil}
use Rattle.std.proofs.lemmas.List.Elements.{filter_map-append}
use Rattle.std.proofs.lemmas.Bool.{and_parts, not-true}
use Rattle.pct_ask.specs.Tokens.{Token, Word, Number, Symbol}
use Rattle.pct_ask.specs.NameLists.{NameLists, list_of}
use Rattle.pct_ask.specs.declared.names.NameKind.{NameKind}
use Rattle.pct_ask.specs.declared.names.NameKind.TheVariants as kinds
use Rattle.pct_ask.specs.declared.statement_verbs.OnVerb.TheVariants as on_verbs
use Rattle.pct_ask.specs.declared.statement_verbs.IntoVerb.TheVariants as into_verbs
use Rattle.pct_ask.specs.StatementVerbs.{on_word, into_word}
use Rattle.pct_ask.specs.declared.statement_verbs.OnVerb.{OnVerb}
use Rattle.pct_ask.specs.declared.statement_verbs.IntoVerb.{IntoVerb}
use Rattle.script_tree.specs.ScriptText.{ScriptText, Thread}
use Rattle.script_tree.specs.Forms.{MeantForm, kind_word, value_in, tokens_of_form}
use Rattle.script_tree.specs.Forms as forms
use Rattle.script_tree.specs.Lines.{tokens_in, declared_name, names_of, declared_value, values_of}
use Rattle.script_tree.specs.Grammar.{Line, block_lines, thread_lines, all_thread_lines}
use Rattle.script_tree.specs.Layout.{form_text, value_tokens, plain_forms, valued_forms, meanings}
use Rattle.script_tree.specs.Layout.{forms_of}
use Rattle.script_tree.proofs.FormCuts.{printed_form, form_tokens}
use Rattle.script_tree.proofs.PrintedLines.{AreFit}
use Rattle.script_tree.proofs.InnerLines.{is_inner, AreInner}

-- the tokens of printed lines
abbrev pub printed_tokens : List MeantForm → List (List Token)
printed_tokens ms = map (λ m. tokens_of_form (printed_form m)) ms

pub tokens_are : (version : ℕ) (ms : List MeantForm) → AreFit version ms
    → map tokens_in (map form_text ms) ≡ printed_tokens ms
tokens_are version [] fit = refl
tokens_are version (m ∷ ms) fit =
    ap (λ tokens. tokens ∷ map tokens_in (map form_text ms)) (form_tokens version m fit.0)
    ∙ ap (λ lines. tokens_of_form (printed_form m) ∷ lines) (tokens_are version ms fit.1)

-- ---- words that declare nothing

abbrev is_no_kind : List ℕ → Bool
is_no_kind word =
    not (bytes_eq word (codes "thread"))
    && (not (bytes_eq word (codes "var"))
    && (not (bytes_eq word (codes "mutex")) && (not (bytes_eq word (codes "cond"))
    && (not (bytes_eq word (codes "sem"))
    && (not (bytes_eq word (codes "barrier")) && not (bytes_eq word (codes "rwlock")))))))

no_kind : (word : List ℕ) (kind : NameKind) → is_no_kind word ≡ true
    → bytes_eq word (kind_word kind) ≡ false
no_kind word kind h =
    let t : Bool = not (bytes_eq word (codes "thread")) in
    let v : Bool = not (bytes_eq word (codes "var")) in
    let m : Bool = not (bytes_eq word (codes "mutex")) in
    let c : Bool = not (bytes_eq word (codes "cond")) in
    let s : Bool = not (bytes_eq word (codes "sem")) in
    let b : Bool = not (bytes_eq word (codes "barrier")) in
    let r : Bool = not (bytes_eq word (codes "rwlock")) in
    let h1 = and_parts t (v && (m && (c && (s && (b && r))))) h in
    let h2 = and_parts v (m && (c && (s && (b && r)))) h1.1 in
    let h3 = and_parts m (c && (s && (b && r))) h2.1 in
    let h4 = and_parts c (s && (b && r)) h3.1 in
    let h5 = and_parts s (b && r) h4.1 in
    let h6 = and_parts b r h5.1 in
    elim kind as (λ k. bytes_eq word (kind_word k) ≡ false) [
      | kinds.Thread ↦ not-true (bytes_eq word (codes "thread")) h1.0
      | kinds.Var ↦ not-true (bytes_eq word (codes "var")) h2.0
      | kinds.Mutex ↦ not-true (bytes_eq word (codes "mutex")) h3.0
      | kinds.Cond ↦ not-true (bytes_eq word (codes "cond")) h4.0
      | kinds.Sem ↦ not-true (bytes_eq word (codes "sem")) h5.0
      | kinds.Barrier ↦ not-true (bytes_eq word (codes "barrier")) h6.0
      | kinds.RwLock ↦ not-true (bytes_eq word (codes "rwlock")) h6.1
    ]

declared_name-none : (kind : NameKind) (word : List ℕ) (tokens : List Token)
    → bytes_eq word (kind_word kind) ≡ false → declared_name kind (Word word ∷ tokens) ≡ None
declared_name-none kind word [] h = refl
declared_name-none kind word (Word name ∷ tokens) h = rw h refl
declared_name-none kind word (Number digits ∷ tokens) h = refl
declared_name-none kind word (Symbol signs ∷ tokens) h = refl

declared_value-none : (kind : NameKind) (word : List ℕ) (tokens : List Token)
    → bytes_eq word (kind_word kind) ≡ false → declared_value kind (Word word ∷ tokens) ≡ None
declared_value-none kind word [] h = refl
declared_value-none kind word (Word name ∷ []) h = refl
declared_value-none kind word (Word name ∷ Word other ∷ tokens) h = refl
declared_value-none kind word (Word name ∷ Number digits ∷ tokens) h = refl
declared_value-none kind word (Word name ∷ Symbol signs ∷ tokens) h = rw h refl
declared_value-none kind word (Number digits ∷ tokens) h = refl
declared_value-none kind word (Symbol signs ∷ tokens) h = refl

on_no_kind : (verb : OnVerb) → is_no_kind (on_word verb) ≡ true
on_no_kind on_verbs.Lock = refl
on_no_kind verb = refl

into_no_kind : (verb : IntoVerb) → is_no_kind (into_word verb) ≡ true
into_no_kind into_verbs.Read = refl
into_no_kind verb = refl

-- the first word of a line inside a thread
abbrev first_word : MeantForm → List ℕ
first_word (forms.On verb object) = on_word verb
first_word (forms.Into verb register object) = into_word verb
first_word (forms.Write var value) = codes "write"
first_word (forms.Add register var value) = codes "add"
first_word (forms.Cas register var old new) = codes "cas"
first_word (forms.Wait cond mutex) = codes "wait"
first_word forms.Yield = codes "yield"
first_word (forms.Assert test) = codes "assert"
first_word (forms.Set register value) = codes "set"
first_word (forms.If test) = codes "if"
first_word (forms.While test) = codes "while"
first_word forms.End = codes "end"
first_word forms.Else = codes "else"
first_word form = []

-- a line that begins so declares nothing
record BeginsSo (m : MeantForm) : Type 0 where
  others : List Token
  tokens : tokens_of_form (printed_form m) ≡ Word (first_word m) ∷ others
  plain : is_no_kind (first_word m) ≡ true

begins_so : (m : MeantForm) → is_inner m ≡ true → BeginsSo m
begins_so (forms.Plain kind name) h = absurd cc
begins_so (forms.Valued kind name value) h = absurd cc
begins_so (forms.Thread name) h = absurd cc
begins_so (forms.On verb object) h = record {
  others = Word object ∷ [];
  tokens = refl;
  plain = on_no_kind verb;
}
begins_so (forms.Into verb register object) h = record {
  others = _;
  tokens = refl;
  plain = into_no_kind verb;
}
begins_so (forms.Write var value) h = record { others = _; tokens = refl; plain = refl }
begins_so (forms.Add register var value) h = record { others = _; tokens = refl; plain = refl }
begins_so (forms.Cas register var old new) h = record { others = _; tokens = refl; plain = refl }
begins_so (forms.Wait cond mutex) h = record { others = _; tokens = refl; plain = refl }
begins_so forms.Yield h = record { others = _; tokens = refl; plain = refl }
begins_so (forms.Assert test) h = record { others = _; tokens = refl; plain = refl }
begins_so (forms.Set register value) h = record { others = _; tokens = refl; plain = refl }
begins_so (forms.If test) h = record { others = _; tokens = refl; plain = refl }
begins_so (forms.While test) h = record { others = _; tokens = refl; plain = refl }
begins_so forms.End h = record { others = _; tokens = refl; plain = refl }
begins_so forms.Else h = record { others = _; tokens = refl; plain = refl }

-- ---- the names and values of lines one after another

abbrev names_in : NameKind → List MeantForm → List (List ℕ)
names_in kind ms = names_of kind (printed_tokens ms)

abbrev values_in : NameKind → List MeantForm → List ℤ
values_in kind ms = values_of kind (printed_tokens ms)

names_in-append : (kind : NameKind) (a b : List MeantForm)
    → names_in kind (a ++ b) ≡ names_in kind a ++ names_in kind b
names_in-append kind a b =
    ap (names_of kind) (map-append (λ m. tokens_of_form (printed_form m)) a b)
    ∙ filter_map-append (declared_name kind) (printed_tokens a) (printed_tokens b)

values_in-append : (kind : NameKind) (a b : List MeantForm)
    → values_in kind (a ++ b) ≡ values_in kind a ++ values_in kind b
values_in-append kind a b =
    ap (values_of kind) (map-append (λ m. tokens_of_form (printed_form m)) a b)
    ∙ filter_map-append (declared_value kind) (printed_tokens a) (printed_tokens b)

inner_names : (kind : NameKind) (version : ℕ) (ms : List MeantForm) → AreInner version ms
    → names_in kind ms ≡ []
inner_names kind version [] inner = refl
inner_names kind version (m ∷ ms) inner =
    let b = begins_so m inner.0.1 in
    let none : declared_name kind (tokens_of_form (printed_form m)) ≡ None =
    ap (declared_name kind) b.tokens
    ∙ declared_name-none kind (first_word m) b.others (no_kind (first_word m) kind b.plain) in
    rw none (inner_names kind version ms inner.1)

inner_values : (kind : NameKind) (version : ℕ) (ms : List MeantForm) → AreInner version ms
    → values_in kind ms ≡ []
inner_values kind version [] inner = refl
inner_values kind version (m ∷ ms) inner =
    let b = begins_so m inner.0.1 in
    let none : declared_value kind (tokens_of_form (printed_form m)) ≡ None =
    ap (declared_value kind) b.tokens
    ∙ declared_value-none kind (first_word m) b.others (no_kind (first_word m) kind b.plain) in
    rw none (inner_values kind version ms inner.1)

-- ---- declarations

same_word : (kind : NameKind) → bytes_eq (kind_word kind) (kind_word kind) ≡ true
same_word kinds.Thread = refl
same_word kinds.Var = refl
same_word kinds.Mutex = refl
same_word kinds.Cond = refl
same_word kinds.Sem = refl
same_word kinds.Barrier = refl
same_word kinds.RwLock = refl

plain_names : (kind : NameKind) (names : List (List ℕ))
    → names_in kind (plain_forms kind names) ≡ names
plain_names kind [] = refl
plain_names kind (n ∷ ns) = rw (same_word kind) (ap (λ others. n ∷ others) (plain_names kind ns))

plain_no_names : (kind other : NameKind) (names : List (List ℕ))
    → bytes_eq (kind_word other) (kind_word kind) ≡ false
    → names_in kind (plain_forms other names) ≡ []
plain_no_names kind other [] h = refl
plain_no_names kind other (n ∷ ns) h = rw h (plain_no_names kind other ns h)

plain_no_values : (kind other : NameKind) (names : List (List ℕ))
    → values_in kind (plain_forms other names) ≡ []
plain_no_values kind other [] = refl
plain_no_values kind other (n ∷ ns) = plain_no_values kind other ns

valued_names : (kind : NameKind) (names : List (List ℕ)) (values : List ℤ)
    → length values ≡ length names → names_in kind (valued_forms kind names values) ≡ names
valued_names kind [] values same = refl
valued_names kind (n ∷ ns) [] same = absurd (omega arith)
valued_names kind (n ∷ ns) (v ∷ vs) same =
    rw (same_word kind) (ap (λ others. n ∷ others) (valued_names kind ns vs (omega arith)))

valued_no_names : (kind other : NameKind) (names : List (List ℕ)) (values : List ℤ)
    → bytes_eq (kind_word other) (kind_word kind) ≡ false
    → names_in kind (valued_forms other names values) ≡ []
valued_no_names kind other [] values h = refl
valued_no_names kind other (n ∷ ns) [] h = refl
valued_no_names kind other (n ∷ ns) (v ∷ vs) h = rw h (valued_no_names kind other ns vs h)

valued_no_values : (kind other : NameKind) (names : List (List ℕ)) (values : List ℤ)
    → bytes_eq (kind_word other) (kind_word kind) ≡ false
    → values_in kind (valued_forms other names values) ≡ []
valued_no_values kind other [] values h = refl
valued_no_values kind other (n ∷ ns) [] h = refl
valued_no_values kind other (n ∷ ns) (v ∷ vs) h = rw h (valued_no_values kind other ns vs h)

-- each value is read back
abbrev pub AreRead : NameKind → List ℤ → Type 0
AreRead kind [] = Unit {0}
AreRead kind (v ∷ vs) = (value_in kind (value_tokens v) ≡ Some v) × AreRead kind vs

valued_values : (kind : NameKind) (names : List (List ℕ)) (values : List ℤ)
    → length values ≡ length names → AreRead kind values
    → values_in kind (valued_forms kind names values) ≡ values
valued_values kind [] [] same read = refl
valued_values kind [] (v ∷ vs) same read = absurd (omega arith)
valued_values kind (n ∷ ns) [] same read = absurd (omega arith)
valued_values kind (n ∷ ns) (v ∷ vs) same read =
    rw (same_word kind, read.0) (ap (λ others. v ∷ others)
    (valued_values kind ns vs (omega arith) read.1))

-- ---- threads

-- each thread's lines below its first are lines inside a thread
abbrev pub ThreadsInner : ℕ → NameLists → List Thread → Type 0
ThreadsInner version names [] = Unit {0}
ThreadsInner version names (t ∷ ts) =
    AreInner version (meanings (block_lines names forms.End t.body)) × ThreadsInner version names ts

threads_names : (version : ℕ) (names : NameLists) (ns : List (List ℕ)) (ts : List Thread)
    → length ts ≡ length ns → ThreadsInner version names ts
    → names_in kinds.Thread (meanings (all_thread_lines names ns ts)) ≡ ns
threads_names version names [] ts same inner = refl
threads_names version names (n ∷ ns) [] same inner = absurd (omega arith)
threads_names version names (n ∷ ns) (t ∷ ts) same inner =
    let A : List Line = block_lines names forms.End t.body in
    let B : List Line = all_thread_lines names ns ts in
    ap (names_in kinds.Thread) (map-append (λ (line : Line). line.1) (thread_lines names n t) B)
    ∙ ap (λ others. n ∷ others) (names_in-append kinds.Thread (meanings A) (meanings B)
    ∙ ap (λ first. first ++ names_in kinds.Thread (meanings B))
    (inner_names kinds.Thread version (meanings A) inner.0)
    ∙ threads_names version names ns ts (omega arith) inner.1)

threads_no_names : (kind : NameKind) (version : ℕ) (names : NameLists) (ns : List (List ℕ))
    (ts : List Thread) → bytes_eq (codes "thread") (kind_word kind) ≡ false
    → ThreadsInner version names ts → names_in kind (meanings (all_thread_lines names ns ts)) ≡ []
threads_no_names kind version names [] ts other inner = refl
threads_no_names kind version names (n ∷ ns) [] other inner = refl
threads_no_names kind version names (n ∷ ns) (t ∷ ts) other inner =
    let A : List Line = block_lines names forms.End t.body in
    let B : List Line = all_thread_lines names ns ts in
    ap (names_in kind) (map-append (λ (line : Line). line.1) (thread_lines names n t) B)
    ∙ rw other (names_in-append kind (meanings A) (meanings B)
    ∙ ap (λ first. first ++ names_in kind (meanings B))
    (inner_names kind version (meanings A) inner.0)
    ∙ threads_no_names kind version names ns ts other inner.1)

threads_no_values : (kind : NameKind) (version : ℕ) (names : NameLists) (ns : List (List ℕ))
    (ts : List Thread) → ThreadsInner version names ts
    → values_in kind (meanings (all_thread_lines names ns ts)) ≡ []
threads_no_values kind version names [] ts inner = refl
threads_no_values kind version names (n ∷ ns) [] inner = refl
threads_no_values kind version names (n ∷ ns) (t ∷ ts) inner =
    let A : List Line = block_lines names forms.End t.body in
    let B : List Line = all_thread_lines names ns ts in
    ap (values_in kind) (map-append (λ (line : Line). line.1) (thread_lines names n t) B)
    ∙ (values_in-append kind (meanings A) (meanings B)
    ∙ ap (λ first. first ++ values_in kind (meanings B))
    (inner_values kind version (meanings A) inner.0)
    ∙ threads_no_values kind version names ns ts inner.1)

-- ---- the whole script

-- the parts of a script's lines
names_seven : (kind : NameKind) (v m c s b r t : List MeantForm)
    → names_in kind ((v ++ (m ++ (c ++ (s ++ (b ++ r))))) ++ t)
    ≡ (names_in kind v ++ (names_in kind m
    ++ (names_in kind c ++ (names_in kind s ++ (names_in kind b ++ names_in kind r)))))
    ++ names_in kind t
names_seven kind v m c s b r t = simp (names_in-append kind)

values_seven : (kind : NameKind) (v m c s b r t : List MeantForm)
    → values_in kind ((v ++ (m ++ (c ++ (s ++ (b ++ r))))) ++ t)
    ≡ (values_in kind v ++ (values_in kind m
    ++ (values_in kind c ++ (values_in kind s ++ (values_in kind b ++ values_in kind r)))))
    ++ values_in kind t
values_seven kind v m c s b r t = simp (values_in-append kind)

module _ (version : ℕ) (script : ScriptText)
    (inner : ThreadsInner version script.names script.threads)
    (same_vars : length script.vars ≡ length script.names.vars)
    (same_sems : length script.sems ≡ length script.names.sems)
    (same_barriers : length script.barriers ≡ length script.names.barriers)
    (same_threads : length script.threads ≡ length script.names.threads) where
  abbrev N : NameLists
  N = script.names

  abbrev V : List MeantForm
  V = valued_forms kinds.Var script.names.vars script.vars

  abbrev M : List MeantForm
  M = plain_forms kinds.Mutex script.names.mutexes

  abbrev C : List MeantForm
  C = plain_forms kinds.Cond script.names.conds

  abbrev S : List MeantForm
  S = valued_forms kinds.Sem script.names.sems script.sems

  abbrev B : List MeantForm
  B = valued_forms kinds.Barrier script.names.barriers script.barriers

  abbrev R : List MeantForm
  R = plain_forms kinds.RwLock script.names.rwlocks

  abbrev T : List MeantForm
  T = meanings (all_thread_lines script.names script.names.threads script.threads)

  pub names_are : (kind : NameKind) → names_in kind (forms_of script) ≡ list_of kind script.names
  names_are kinds.Thread =
      names_seven kinds.Thread V M C S B R T
      ∙ rw (
        valued_no_names kinds.Thread kinds.Var N.vars script.vars refl,
        plain_no_names kinds.Thread kinds.Mutex N.mutexes refl,
        plain_no_names kinds.Thread kinds.Cond N.conds refl,
        valued_no_names kinds.Thread kinds.Sem N.sems script.sems refl,
        valued_no_names kinds.Thread kinds.Barrier N.barriers script.barriers refl,
        plain_no_names kinds.Thread kinds.RwLock N.rwlocks refl,
        threads_names version N N.threads script.threads same_threads inner,
      ) refl
  names_are kinds.Var =
      names_seven kinds.Var V M C S B R T
      ∙ rw (
        valued_names kinds.Var N.vars script.vars same_vars,
        plain_no_names kinds.Var kinds.Mutex N.mutexes refl,
        plain_no_names kinds.Var kinds.Cond N.conds refl,
        valued_no_names kinds.Var kinds.Sem N.sems script.sems refl,
        valued_no_names kinds.Var kinds.Barrier N.barriers script.barriers refl,
        plain_no_names kinds.Var kinds.RwLock N.rwlocks refl,
        threads_no_names kinds.Var version N N.threads script.threads refl inner,
      )
      (simp append-nil)
  names_are kinds.Mutex =
      names_seven kinds.Mutex V M C S B R T
      ∙ rw (
        valued_no_names kinds.Mutex kinds.Var N.vars script.vars refl,
        plain_names kinds.Mutex N.mutexes,
        plain_no_names kinds.Mutex kinds.Cond N.conds refl,
        valued_no_names kinds.Mutex kinds.Sem N.sems script.sems refl,
        valued_no_names kinds.Mutex kinds.Barrier N.barriers script.barriers refl,
        plain_no_names kinds.Mutex kinds.RwLock N.rwlocks refl,
        threads_no_names kinds.Mutex version N N.threads script.threads refl inner,
      )
      (simp append-nil)
  names_are kinds.Cond =
      names_seven kinds.Cond V M C S B R T
      ∙ rw (
        valued_no_names kinds.Cond kinds.Var N.vars script.vars refl,
        plain_no_names kinds.Cond kinds.Mutex N.mutexes refl,
        plain_names kinds.Cond N.conds,
        valued_no_names kinds.Cond kinds.Sem N.sems script.sems refl,
        valued_no_names kinds.Cond kinds.Barrier N.barriers script.barriers refl,
        plain_no_names kinds.Cond kinds.RwLock N.rwlocks refl,
        threads_no_names kinds.Cond version N N.threads script.threads refl inner,
      )
      (simp append-nil)
  names_are kinds.Sem =
      names_seven kinds.Sem V M C S B R T
      ∙ rw (
        valued_no_names kinds.Sem kinds.Var N.vars script.vars refl,
        plain_no_names kinds.Sem kinds.Mutex N.mutexes refl,
        plain_no_names kinds.Sem kinds.Cond N.conds refl,
        valued_names kinds.Sem N.sems script.sems same_sems,
        valued_no_names kinds.Sem kinds.Barrier N.barriers script.barriers refl,
        plain_no_names kinds.Sem kinds.RwLock N.rwlocks refl,
        threads_no_names kinds.Sem version N N.threads script.threads refl inner,
      )
      (simp append-nil)
  names_are kinds.Barrier =
      names_seven kinds.Barrier V M C S B R T
      ∙ rw (
        valued_no_names kinds.Barrier kinds.Var N.vars script.vars refl,
        plain_no_names kinds.Barrier kinds.Mutex N.mutexes refl,
        plain_no_names kinds.Barrier kinds.Cond N.conds refl,
        valued_no_names kinds.Barrier kinds.Sem N.sems script.sems refl,
        valued_names kinds.Barrier N.barriers script.barriers same_barriers,
        plain_no_names kinds.Barrier kinds.RwLock N.rwlocks refl,
        threads_no_names kinds.Barrier version N N.threads script.threads refl inner,
      )
      (simp append-nil)
  names_are kinds.RwLock =
      names_seven kinds.RwLock V M C S B R T
      ∙ rw (
        valued_no_names kinds.RwLock kinds.Var N.vars script.vars refl,
        plain_no_names kinds.RwLock kinds.Mutex N.mutexes refl,
        plain_no_names kinds.RwLock kinds.Cond N.conds refl,
        valued_no_names kinds.RwLock kinds.Sem N.sems script.sems refl,
        valued_no_names kinds.RwLock kinds.Barrier N.barriers script.barriers refl,
        plain_names kinds.RwLock N.rwlocks,
        threads_no_names kinds.RwLock version N N.threads script.threads refl inner,
      )
      (simp append-nil)

  pub vars_are : AreRead kinds.Var script.vars → values_in kinds.Var (forms_of script) ≡ script.vars
  vars_are read =
      values_seven kinds.Var V M C S B R T
      ∙ rw (
        valued_values kinds.Var N.vars script.vars same_vars read,
        plain_no_values kinds.Var kinds.Mutex N.mutexes,
        plain_no_values kinds.Var kinds.Cond N.conds,
        valued_no_values kinds.Var kinds.Sem N.sems script.sems refl,
        valued_no_values kinds.Var kinds.Barrier N.barriers script.barriers refl,
        plain_no_values kinds.Var kinds.RwLock N.rwlocks,
        threads_no_values kinds.Var version N N.threads script.threads inner,
      ) (simp append-nil)

  pub sems_are : AreRead kinds.Sem script.sems → values_in kinds.Sem (forms_of script) ≡ script.sems
  sems_are read =
      values_seven kinds.Sem V M C S B R T
      ∙ rw (
        valued_no_values kinds.Sem kinds.Var N.vars script.vars refl,
        plain_no_values kinds.Sem kinds.Mutex N.mutexes,
        plain_no_values kinds.Sem kinds.Cond N.conds,
        valued_values kinds.Sem N.sems script.sems same_sems read,
        valued_no_values kinds.Sem kinds.Barrier N.barriers script.barriers refl,
        plain_no_values kinds.Sem kinds.RwLock N.rwlocks,
        threads_no_values kinds.Sem version N N.threads script.threads inner,
      ) (simp append-nil)

  pub barriers_are : AreRead kinds.Barrier script.barriers
      → values_in kinds.Barrier (forms_of script) ≡ script.barriers
  barriers_are read =
      values_seven kinds.Barrier V M C S B R T
      ∙ rw (
        valued_no_values kinds.Barrier kinds.Var N.vars script.vars refl,
        plain_no_values kinds.Barrier kinds.Mutex N.mutexes,
        plain_no_values kinds.Barrier kinds.Cond N.conds,
        valued_no_values kinds.Barrier kinds.Sem N.sems script.sems refl,
        valued_values kinds.Barrier N.barriers script.barriers same_barriers read,
        plain_no_values kinds.Barrier kinds.RwLock N.rwlocks,
        threads_no_values kinds.Barrier version N N.threads script.threads inner,
      )
      (simp append-nil)
