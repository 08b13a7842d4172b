-- The names and first values that lines declare.
use Rattle.std.proofs.Common.{◌≡◌, ℕ, ◌+◌, inl, inr, Bool, true, false, cond, List, [], ◌∷◌, ◌++◌}
use Rattle.std.proofs.Common.{map, Option, Some, None, refl, sym, ap, ◌∙◌, subst}
use Rattle.std.specs.Prelude.{ℤ, not, codes, All}
use Rattle.std.specs.List.{list_all, cons_option}
use Rattle.std.specs.Str.{bytes_eq}
use Rattle.std.proofs.lemmas.Bool.{and_parts, not-true}
use Rattle.std.proofs.lemmas.List.Elements.{All-head, All-tail}
use Rattle.std.proofs.lemmas.List.Folds.{list_all-append}
use Rattle.pct_ask.specs.Tokens.{Token, Word, Symbol}
use Rattle.pct_ask.specs.NameLists.{NameLists}
use Rattle.pct_ask.specs.declared.names.NameKind.{NameKind}
use Rattle.pct_ask.specs.declared.names.NameKind.TheVariants as kinds
use Rattle.pct_ask.specs.Words.{register_word}
use Rattle.pct_ask.specs.StatementVerbs.{on_word, into_word}
use Rattle.script_tree.specs.Trees.{Statement, Statements, Closed, Then}
use Rattle.script_tree.specs.Trees as trees
use Rattle.script_tree.specs.ScriptText.{Thread as ThreadTree}
use Rattle.script_tree.specs.Forms as forms
use Rattle.script_tree.specs.Forms.{TokenForm, MeantForm, Plain, Valued, Thread, On, Into, Write}
use Rattle.script_tree.specs.Forms.{Add, Cas, Wait, Yield, Assert, Set, If, While, End, Else}
use Rattle.script_tree.specs.Forms.{kind_word, has_value, is_plain, value_in, tokens_of_form}
use Rattle.script_tree.specs.Forms.{IsFormOf, Means}
use Rattle.script_tree.specs.Lines.{tokens_in, declared_name, names_of, declared_value, values_of}
use Rattle.script_tree.specs.Lines.{just_thread, thread_in, threads_begun}
use Rattle.script_tree.specs.Grammar.{Line, declares, AreLines, IsLineText, statement_lines}
use Rattle.script_tree.specs.Grammar.{block_lines, thread_lines, all_thread_lines}
use Rattle.script_parse.proofs.Standing.{on_quiet, into_quiet, no_kind, nameless_at}
use Rattle.script_parse.proofs.DeclaredValues.{threadless_at}
use Rattle.script_parse.proofs.DeclaredForms.{on_none, into_none}
use Rattle.script_parse.proofs.ReadLines.{blank_in}
use Rattle.script_parse.proofs.Choices.{clash}

abbrev pub is_thread : NameKind → Bool
is_thread kinds.Thread = true
is_thread kind = false

-- the line declares nothing
abbrev pub says_no_name : Line → Bool
says_no_name line = not (declares line.1)

-- ---- the lines of statements declare nothing

mutual
  statement_quiet : (names : NameLists) (s : Statement)
      → list_all says_no_name (statement_lines names s) ≡ true
  statement_quiet names (trees.If line test body) = rw (block_quiet names forms.End body refl) refl
  statement_quiet names (trees.IfElse line test first otherwise) =
      rw (
        list_all-append says_no_name (block_lines names forms.Else first)
            (block_lines names forms.End otherwise),
        block_quiet names forms.Else first refl,
        block_quiet names forms.End otherwise refl,
      ) refl
  statement_quiet names (trees.While line test body) =
      rw (block_quiet names forms.End body refl) refl
  statement_quiet names s = refl

  block_quiet : (names : NameLists) (closing : MeantForm) (body : Statements)
      → declares closing ≡ false → list_all says_no_name (block_lines names closing body) ≡ true
  block_quiet names closing (Closed line) h = rw h refl
  block_quiet names closing (Then s rest) h =
      list_all-append says_no_name (statement_lines names s) (block_lines names closing rest)
      ∙ rw (statement_quiet names s, block_quiet names closing rest h) refl

pub threads_quiet : (names : NameLists) (xs : List (List ℕ)) (threads : List ThreadTree)
    → list_all says_no_name (all_thread_lines names xs threads) ≡ true
threads_quiet names [] threads = refl
threads_quiet names (x ∷ xs) [] = refl
threads_quiet names (x ∷ xs) (thread ∷ threads) =
    list_all-append says_no_name (thread_lines names x thread) (all_thread_lines names xs threads)
    ∙ rw (block_quiet names forms.End thread.body refl, threads_quiet names xs threads) refl

-- ---- what the tokens of a form declare

no_thread_named : (kind : NameKind) (name : List ℕ) → is_thread kind ≡ false
    → declared_name kind (Word (codes "thread") ∷ Word name ∷ []) ≡ None
no_thread_named kinds.Thread name h = absurd cc
no_thread_named kinds.Var name h = refl
no_thread_named kind name h = refl

none_named : (cut : TokenForm) (meant : MeantForm) → Means cut meant → declares meant ≡ false
    → (kind : NameKind) → is_thread kind ≡ false → declared_name kind (tokens_of_form cut) ≡ None
none_named (Plain k name) meant m h kind t = clash (sym (ap declares m) ∙ h)
none_named (Valued k name value) meant m h kind t = clash (sym (ap declares m) ∙ h)
none_named (Thread name) meant m h kind t = no_thread_named kind name t
none_named (On verb object) meant m h kind t = (on_quiet verb (Word object ∷ [])).nameless kind
none_named (Into verb reg object) meant m h kind t =
    (into_quiet verb (Word (register_word reg) ∷ Word object ∷ [])).nameless kind
none_named (Write var value) meant m h kind t =
    nameless_at (codes "write") (Word var ∷ value) kind (no_kind (codes "write") refl kind)
none_named (Add reg var value) meant m h kind t =
    nameless_at (codes "add") (Word (register_word reg) ∷ Word var ∷ value) kind
    (no_kind (codes "add") refl kind)
none_named (Cas reg var old new) meant m h kind t =
    nameless_at (codes "cas") (Word (register_word reg) ∷ Word var
    ∷ (old ++ Symbol (codes ",") ∷ new)) kind (no_kind (codes "cas") refl kind)
none_named (Wait waiting mutex) meant m h kind t =
    nameless_at (codes "wait") (Word waiting ∷ Word mutex ∷ []) kind
    (no_kind (codes "wait") refl kind)
none_named Yield meant m h kind t = refl
none_named (Assert test) meant m h kind t =
    nameless_at (codes "assert") test kind (no_kind (codes "assert") refl kind)
none_named (Set reg value) meant m h kind t =
    nameless_at (codes "set") (Word (register_word reg) ∷ value) kind
    (no_kind (codes "set") refl kind)
none_named (If test) meant m h kind t =
    nameless_at (codes "if") test kind (no_kind (codes "if") refl kind)
none_named (While test) meant m h kind t =
    nameless_at (codes "while") test kind (no_kind (codes "while") refl kind)
none_named End meant m h kind t = refl
none_named Else meant m h kind t = refl

off : (b : Bool) (name : List ℕ) (value : Option ℤ) → cond b (Some name) None ≡ None
    → cond b value None ≡ None
off true name value e = absurd cc
off false name value e = refl

none_valued : (kind : NameKind) (tokens : List Token) → declared_name kind tokens ≡ None
    → declared_value kind tokens ≡ None
none_valued kind [] h = refl
none_valued kind (Word word ∷ []) h = refl
none_valued kind (Word word ∷ Word name ∷ []) h = refl
none_valued kind (Word word ∷ Word name ∷ Symbol signs ∷ rest) h =
    off (bytes_eq word (kind_word kind)) name (value_in kind rest) h
none_valued kind (Word word ∷ Word name ∷ Word other ∷ rest) h = refl
none_valued kind tokens h = refl

-- ---- lines that declare nothing but threads

pub none_declared : (version n : ℕ) (texts : List (List ℕ)) (lines : List Line) (kind : NameKind)
    → is_thread kind ≡ false → AreLines version n texts lines → list_all says_no_name lines ≡ true
    → (names_of kind (map tokens_in texts) ≡ []) × (values_of kind (map tokens_in texts) ≡ [])
none_declared version n [] lines kind t a q = (refl, refl)
none_declared version n (text ∷ texts) lines kind t (inl a) q =
    let rest = none_declared version (n + 1) texts lines kind t a.1 q in
    (rw (blank_in text a.0) rest.0, rw (blank_in text a.0) rest.1)
none_declared version n (text ∷ texts) lines kind t (inr a) q =
    let both = and_parts (not (declares a.0)) (list_all says_no_name a.1)
    (subst (λ (ls : List Line). list_all says_no_name ls ≡ true) a.2 q) in
    let rest = none_declared version (n + 1) texts a.1 kind t a.4 both.1 in
    let none : declared_name kind (tokens_in text) ≡ None =
    ap (declared_name kind) a.3.1.spelled
    ∙ none_named a.3.0 a.0 a.3.1.means (not-true (declares a.0) both.0) kind t in
    let no_value : declared_value kind (tokens_in text) ≡ None =
    none_valued kind (tokens_in text) none in
    (rw none rest.0, rw no_value rest.1)

-- ---- the threads of lines

quiet_thread : (word : List ℕ) (rest : List Token) → bytes_eq word (codes "thread") ≡ false
    → just_thread (Word word ∷ rest) ≡ declared_name kinds.Thread (Word word ∷ rest)
quiet_thread word rest h = threadless_at word rest h ∙ sym (nameless_at word rest kinds.Thread h)

plain_thread : (kind : NameKind) (rest : List Token) → is_plain kind ≡ true
    → bytes_eq (kind_word kind) (codes "thread") ≡ false
plain_thread kinds.Mutex rest h = refl
plain_thread kinds.Cond rest h = refl
plain_thread kinds.RwLock rest h = refl
plain_thread kind rest h = absurd cc

valued_thread : (kind : NameKind) (rest : List Token) → has_value kind ≡ true
    → bytes_eq (kind_word kind) (codes "thread") ≡ false
valued_thread kinds.Var rest h = refl
valued_thread kinds.Sem rest h = refl
valued_thread kinds.Barrier rest h = refl
valued_thread kind rest h = absurd cc

same_thread : (version : ℕ) (cut : TokenForm) → IsFormOf version cut
    → just_thread (tokens_of_form cut) ≡ declared_name kinds.Thread (tokens_of_form cut)
same_thread version (Plain kind name) of =
    quiet_thread (kind_word kind) (Word name ∷ []) (plain_thread kind [] of.0)
same_thread version (Valued kind name value) of =
    quiet_thread (kind_word kind) (Word name ∷ Symbol (codes "=") ∷ value)
    (valued_thread kind [] of.0)
same_thread version (Thread name) of = refl
same_thread version (On verb object) of =
    quiet_thread (on_word verb) (Word object ∷ [])
    (no_kind (on_word verb) (on_none verb) kinds.Thread)
same_thread version (Into verb reg object) of =
    quiet_thread (into_word verb) (Word (register_word reg) ∷ Word object ∷ [])
    (no_kind (into_word verb) (into_none verb) kinds.Thread)
same_thread version (Write var value) of = quiet_thread (codes "write") (Word var ∷ value) refl
same_thread version (Add reg var value) of =
    quiet_thread (codes "add") (Word (register_word reg) ∷ Word var ∷ value) refl
same_thread version (Cas reg var old new) of =
    quiet_thread (codes "cas") (Word (register_word reg) ∷ Word var
    ∷ (old ++ Symbol (codes ",") ∷ new)) refl
same_thread version (Wait waiting mutex) of =
    quiet_thread (codes "wait") (Word waiting ∷ Word mutex ∷ []) refl
same_thread version Yield of = refl
same_thread version (Assert test) of = quiet_thread (codes "assert") test refl
same_thread version (Set reg value) of =
    quiet_thread (codes "set") (Word (register_word reg) ∷ value) refl
same_thread version (If test) of = quiet_thread (codes "if") test refl
same_thread version (While test) of = quiet_thread (codes "while") test refl
same_thread version End of = refl
same_thread version Else of = refl

pub thread_at : (text : List ℕ) → IsLineText text → thread_in text ≡ just_thread (tokens_in text)
thread_at text sound = rw sound.text refl

cons_same : (a b : Option (List ℕ)) (xs ys : List (List ℕ)) → a ≡ b → xs ≡ ys
    → cons_option a xs ≡ cons_option b ys
cons_same a b xs ys p q = rw (p, q) refl

-- the threads that sound lines begin are those that they declare
pub threads_same : (version n : ℕ) (texts : List (List ℕ)) (lines : List Line)
    → AreLines version n texts lines → All IsLineText texts
    → threads_begun texts ≡ names_of kinds.Thread (map tokens_in texts)
threads_same version n [] lines a sound = refl
threads_same version n (text ∷ texts) lines (inl a) sound =
    let here : just_thread (tokens_in text) ≡ declared_name kinds.Thread (tokens_in text) =
    rw (blank_in text a.0) refl in
    cons_same (thread_in text) (declared_name kinds.Thread (tokens_in text)) (threads_begun texts)
    (names_of kinds.Thread (map tokens_in texts))
    (thread_at text (All-head IsLineText text texts sound) ∙ here)
    (threads_same version (n + 1) texts lines a.1 (All-tail IsLineText text texts sound))
threads_same version n (text ∷ texts) lines (inr a) sound =
    let here : just_thread (tokens_in text) ≡ declared_name kinds.Thread (tokens_in text) =
    ap just_thread a.3.1.spelled ∙ same_thread version a.3.0 a.3.1.of
    ∙ sym (ap (declared_name kinds.Thread) a.3.1.spelled) in
    cons_same (thread_in text) (declared_name kinds.Thread (tokens_in text)) (threads_begun texts)
    (names_of kinds.Thread (map tokens_in texts))
    (thread_at text (All-head IsLineText text texts sound) ∙ here)
    (threads_same version (n + 1) texts a.1 a.4 (All-tail IsLineText text texts sound))
