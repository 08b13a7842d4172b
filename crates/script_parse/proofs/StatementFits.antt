-- Statements that are read belong to their script.
use Rattle.std.proofs.Common.{◌≡◌, ℕ, ◌<◌, ◌≤◌, Bool, true, get_or, length, List, [], ◌∷◌, Some}
use Rattle.std.proofs.Common.{refl, ap, ◌∙◌, arith, subst}
use Rattle.std.specs.Prelude.{◌&&◌}
use Rattle.std.specs.Option.{option_map}
use Rattle.std.proofs.lemmas.Bool.{le-leb, lt-ltb, and_parts}
use Rattle.std.specs.Str.Parse.{digits_value}
use Rattle.pct_ask.specs.Tokens.{Token}
use Rattle.pct_ask.specs.NameLists.{NameLists, list_of, place_of}
use Rattle.pct_ask.specs.declared.names.NameKind.{NameKind}
use Rattle.pct_ask.specs.declared.names.NameKind.TheVariants as kinds
use Rattle.pct_ask.proofs.laws.Names.{place_of-Some}
use Rattle.pct_ask.specs.TraceText.{name_at}
use Rattle.pct_ask.specs.declared.statement_verbs.OnVerb.{OnVerb}
use Rattle.pct_ask.specs.declared.statement_verbs.OnVerb.TheVariants.{RwUnlock, WrLock, Lock, Start}
use Rattle.pct_ask.specs.declared.statement_verbs.OnVerb.TheVariants.{RdLock}
use Rattle.pct_ask.specs.declared.statement_verbs.IntoVerb.{IntoVerb}
use Rattle.pct_ask.specs.declared.statement_verbs.IntoVerb.TheVariants.{Read, TryRdLock, TryWrLock}
use Rattle.pct_ask.specs.StatementVerbs.{on_kind, into_kind, on_since, into_since}
use Rattle.script_tree.specs.Trees.{Expression, Statement}
use Rattle.script_tree.specs.Trees as trees
use Rattle.script_tree.specs.Fitting.{line_fits, place_fits, expression_fits, statement_fits}
use Rattle.script_tree.specs.Fitting.{count_of}
use Rattle.script_tree.specs.Grammar.{statement_lines}
use Rattle.script_tree.specs.Expressions.{IsSpelled, number, register, enclosed, minus}
use Rattle.script_tree.specs.Expressions.{not as negated, two, stronger}
use Rattle.script_tree.specs.Forms.{TokenForm, MeantForm, Plain, Valued, Thread, On, Into, Write}
use Rattle.script_tree.specs.Forms.{Add, Cas, Wait, Yield, Assert, Set, If, While, End, Else}
use Rattle.script_tree.specs.Forms.{IsFormOf, Means}
use Rattle.script_parse.specs.Reading.{Finder, place_in, on_statement, into_statement, statement_on}
use Rattle.script_parse.proofs.Choices.{some_is, mapped_some, bind_some}
use Rattle.script_parse.proofs.Meanings.{ForEach}

-- an expression that tokens spell has numbers without a sign, and registers that there are
pub spelled_fits : (level : ℕ) (tokens : List Token) (tree : Expression)
    → IsSpelled level tokens tree → expression_fits tree ≡ true
spelled_fits _ _ _ (number digits) = le-leb 0 (digits_value 10 digits) (omega arith)
spelled_fits _ _ _ (register reg few) = lt-ltb reg 16 few
spelled_fits _ _ _ (enclosed tokens tree h) = spelled_fits 0 tokens tree h
spelled_fits _ _ _ (minus tokens tree h) = spelled_fits 5 tokens tree h
spelled_fits _ _ _ (negated tokens tree h) = spelled_fits 5 tokens tree h
spelled_fits _ _ _ (two op lefts rights left right hl hr) =
    rw (spelled_fits _ lefts left hl, spelled_fits _ rights right hr) refl
spelled_fits _ _ _ (stronger level tokens tree h) = spelled_fits _ tokens tree h

-- the expressions of a form are such
abbrev pub meant_fits : MeantForm → Bool
meant_fits (Write var value) = expression_fits value
meant_fits (Add reg var value) = expression_fits value
meant_fits (Cas reg var old new) = expression_fits old && expression_fits new
meant_fits (Assert test) = expression_fits test
meant_fits (Set reg value) = expression_fits value
meant_fits (If test) = expression_fits test
meant_fits (While test) = expression_fits test
meant_fits form = true

pub means_fits : (cut : TokenForm) (meant : MeantForm) → Means cut meant → meant_fits meant ≡ true
means_fits (Plain kind name) meant m = rw m refl
means_fits (Valued kind name value) meant m = rw m refl
means_fits (Thread name) meant m = rw m refl
means_fits (On verb object) meant m = rw m refl
means_fits (Into verb reg object) meant m = rw m refl
means_fits (Write var value) meant m = rw m.2 (spelled_fits 0 value m.0 m.1)
means_fits (Add reg var value) meant m = rw m.2 (spelled_fits 0 value m.0 m.1)
means_fits (Cas reg var old new) meant m =
    rw (m.4, spelled_fits 0 old m.0 m.2, spelled_fits 0 new m.1 m.3) refl
means_fits (Wait waiting mutex) meant m = rw m refl
means_fits Yield meant m = rw m refl
means_fits (Assert test) meant m = rw m.2 (spelled_fits 0 test m.0 m.1)
means_fits (Set reg value) meant m = rw m.2 (spelled_fits 0 value m.0 m.1)
means_fits (If test) meant m = rw m.2 (spelled_fits 0 test m.0 m.1)
means_fits (While test) meant m = rw m.2 (spelled_fits 0 test m.0 m.1)
means_fits End meant m = rw m refl
means_fits Else meant m = rw m refl

-- the names with the threads of the whole text
abbrev pub with_threads : List (List ℕ) → NameLists → NameLists
with_threads threads names = record names { threads = threads }

abbrev pub finder : List (List ℕ) → Finder
finder threads name = place_of name threads

place_at_kind : (threads : List (List ℕ)) (names : NameLists) (kind : NameKind) (name : List ℕ)
    (place : ℕ) → place_in names (finder threads) kind name ≡ Some place
    → place_of name (list_of kind (with_threads threads names)) ≡ Some place
place_at_kind threads names kinds.Thread name place e = e
place_at_kind threads names kind name place e = e

-- a name that is found stands at its place
pub found_place : (threads : List (List ℕ)) (names : NameLists) (kind : NameKind) (name : List ℕ)
    (place : ℕ) → place_in names (finder threads) kind name ≡ Some place
    → (place_fits (list_of kind (with_threads threads names)) place ≡ true)
    × (get_or (list_of kind (with_threads threads names)) place [] ≡ name)
found_place threads names kind name place e =
    let p = place_of-Some name (list_of kind (with_threads threads names)) place
    (place_at_kind threads names kind name place e) in
    (lt-ltb place (length (list_of kind (with_threads threads names))) p.0, p.1)

module _ (version : ℕ) (names : NameLists) (room line : ℕ) (on_line : line_fits line ≡ true) where
  on_fits : (verb : OnVerb) (place : ℕ) → on_since verb ≤ version
      → place_fits (list_of (on_kind verb) names) place ≡ true
      → statement_fits version names room (on_statement verb line place) ≡ true
  on_fits Start place v p = rw (on_line, p, le-leb 2 version v) refl
  on_fits RdLock place v p = rw (on_line, p, le-leb 3 version v) refl
  on_fits WrLock place v p = rw (on_line, p, le-leb 3 version v) refl
  on_fits RwUnlock place v p = rw (on_line, p, le-leb 3 version v) refl
  on_fits verb place v p = rw (on_line, p) refl

  into_fits : (verb : IntoVerb) (reg place : ℕ) → into_since verb ≤ version → reg < 16
      → place_fits (list_of (into_kind verb) names) place ≡ true
      → statement_fits version names room (into_statement verb line reg place) ≡ true
  into_fits TryRdLock reg place v r p = rw (on_line, lt-ltb reg 16 r, p, le-leb 3 version v) refl
  into_fits TryWrLock reg place v r p = rw (on_line, lt-ltb reg 16 r, p, le-leb 3 version v) refl
  into_fits verb reg place v r p = rw (on_line, lt-ltb reg 16 r, p) refl

-- a statement that is read of a line
pub record IsSaid (version : ℕ) (names : NameLists) (line : ℕ) (meant : MeantForm)
    (statement : Statement) : Type 0 where
  pub fits : (room : ℕ) → statement_fits version names room statement ≡ true
  pub lines : statement_lines names statement ≡ (line, meant) ∷ []
  pub one : count_of statement ≡ 1

on_said : (version : ℕ) (names : NameLists) (line : ℕ) → line_fits line ≡ true
    → (verb : OnVerb) (place : ℕ) (object : List ℕ) → on_since verb ≤ version
    → place_fits (list_of (on_kind verb) names) place ≡ true
    → get_or (list_of (on_kind verb) names) place [] ≡ object
    → IsSaid version names line (On verb object) (on_statement verb line place)
on_said version names line h verb place object v p e = record {
  fits = λ room. on_fits version names room line h verb place v p;
  lines = on_lines verb ∙ ap (λ (x : List ℕ). (line, On verb x) ∷ []) e;
  one = on_one verb;
}
  where
    on_lines : (verb : OnVerb) → statement_lines names (on_statement verb line place)
        ≡ (line, On verb (name_at (list_of (on_kind verb) names) place)) ∷ []
    on_lines Lock = refl
    on_lines verb = refl

    on_one : (verb : OnVerb) → count_of (on_statement verb line place) ≡ 1
    on_one Lock = refl
    on_one verb = refl

into_said : (version : ℕ) (names : NameLists) (line : ℕ) → line_fits line ≡ true
    → (verb : IntoVerb) (reg place : ℕ) (object : List ℕ) → into_since verb ≤ version → reg < 16
    → place_fits (list_of (into_kind verb) names) place ≡ true
    → get_or (list_of (into_kind verb) names) place [] ≡ object
    → IsSaid version names line (Into verb reg object) (into_statement verb line reg place)
into_said version names line h verb reg place object v r p e = record {
  fits = λ room. into_fits version names room line h verb reg place v r p;
  lines = into_lines verb ∙ ap (λ (x : List ℕ). (line, Into verb reg x) ∷ []) e;
  one = into_one verb;
}
  where
    into_lines : (verb : IntoVerb) → statement_lines names (into_statement verb line reg place)
        ≡ (line, Into verb reg (name_at (list_of (into_kind verb) names) place)) ∷ []
    into_lines Read = refl
    into_lines verb = refl

    into_one : (verb : IntoVerb) → count_of (into_statement verb line reg place) ≡ 1
    into_one Read = refl
    into_one verb = refl

module _ (version : ℕ) (threads : List (List ℕ)) (names : NameLists) (line : ℕ)
    (on_line : line_fits line ≡ true) where
  abbrev pub all : NameLists
  all = with_threads threads names

  abbrev pub IsStatement : TokenForm → MeantForm → Type 0
  IsStatement cut meant = IsFormOf version cut → meant_fits meant ≡ true → (s : Statement)
      → statement_on names (finder threads) line meant ≡ Some s → IsSaid version all line meant s

  var_said : (meant : List ℕ → MeantForm) (make : ℕ → Statement) (var : List ℕ) (s : Statement)
      → ((place : ℕ) → place_fits names.vars place ≡ true → (room : ℕ)
      → statement_fits version all room (make place) ≡ true)
      → ((place : ℕ) → statement_lines all (make place)
      ≡ (line, meant (name_at names.vars place)) ∷ [])
      → ((place : ℕ) → count_of (make place) ≡ 1)
      → option_map make (place_in names (finder threads) kinds.Var var) ≡ Some s
      → IsSaid version all line (meant var) s
  var_said meant make var s f l o e =
      let m = mapped_some make (place_in names (finder threads) kinds.Var var) s e in
      let p = found_place threads names kinds.Var var m.0 m.1 in
      subst (IsSaid version all line (meant var)) m.2
      (record {
        fits = f m.0 p.0;
        lines = l m.0 ∙ ap (λ (x : List ℕ). (line, meant x) ∷ []) p.1;
        one = o m.0;
      })

  -- the statement of a line is read of it
  pub said_each : ForEach IsStatement
  said_each = record {
    plain = λ kind name of f s e. absurd cc;
    valued = λ kind name value of f s e. absurd cc;
    thread = λ name of f s e. absurd cc;
    on = λ verb object of f s e.
        let m = mapped_some (on_statement verb line)
        (place_in names (finder threads) (on_kind verb) object) s e in
        let p = found_place threads names (on_kind verb) object m.0 m.1 in
        subst (IsSaid version all line (On verb object)) m.2
        (on_said version all line on_line verb m.0 object of.0 p.0 p.1);
    into = λ verb reg object of f s e.
        let m = mapped_some (into_statement verb line reg)
        (place_in names (finder threads) (into_kind verb) object) s e in
        let p = found_place threads names (into_kind verb) object m.0 m.1 in
        subst (IsSaid version all line (Into verb reg object)) m.2
        (into_said version all line on_line verb reg m.0 object of.0 of.1 p.0 p.1);
    write =
        λ var value tree of f s e. var_said (λ (x : List ℕ). Write x tree)
        (λ (x : ℕ). trees.Write line x tree) var s (λ place p room. rw (on_line, p, f) refl)
        (λ place. refl) (λ place. refl) e;
    add =
        λ reg var value tree of f s e. var_said (λ (x : List ℕ). Add reg x tree)
        (λ (x : ℕ). trees.Add line reg x tree) var s
        (λ place p room. rw (on_line, lt-ltb reg 16 of.0, p, f) refl) (λ place. refl)
        (λ place. refl) e;
    cas = λ reg var old new a b of f s e.
        let both = and_parts (expression_fits a) (expression_fits b) f in
        var_said (λ (x : List ℕ). Cas reg x a b) (λ (x : ℕ). trees.Cas line reg x a b) var s
        (λ place p room. rw (on_line, lt-ltb reg 16 of.0, p, both.0, both.1) refl)
        (λ place. refl) (λ place. refl) e;
    wait = λ waiting mutex of f s e.
        let b = bind_some (λ (c : ℕ). option_map (trees.Wait line c)
        (place_in names (finder threads) kinds.Mutex mutex))
        (place_in names (finder threads) kinds.Cond waiting) s e in
        let m = mapped_some (trees.Wait line b.0)
        (place_in names (finder threads) kinds.Mutex mutex) s b.2 in
        let p = found_place threads names kinds.Cond waiting b.0 b.1 in
        let q = found_place threads names kinds.Mutex mutex m.0 m.1 in
        subst (IsSaid version all line (Wait waiting mutex)) m.2
        (record {
          fits = λ room. rw (on_line, p.0, q.0) refl;
          lines = rw (p.1, q.1) refl;
          one = refl;
        });
    yield =
        λ of f s e. subst (IsSaid version all line Yield) (some_is (trees.Yield line) s e)
        (record { fits = λ room. on_line; lines = refl; one = refl });
    assert =
        λ test tree of f s e. subst (IsSaid version all line (Assert tree))
        (some_is (trees.Assert line tree) s e)
        (record { fits = λ room. rw (on_line, f) refl; lines = refl; one = refl });
    set =
        λ reg value tree of f s e. subst (IsSaid version all line (Set reg tree))
        (some_is (trees.Set line reg tree) s e)
        (record {
          fits = λ room. rw (on_line, lt-ltb reg 16 of, f) refl;
          lines = refl;
          one = refl;
        });
    when = λ test tree of f s e. absurd cc;
    while = λ test tree of f s e. absurd cc;
    end = λ of f s e. absurd cc;
    otherwise = λ of f s e. absurd cc;
  }
