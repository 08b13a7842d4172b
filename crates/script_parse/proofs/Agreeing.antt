-- What a form asks of the lines before it is what it asks of what was read of them.
use Rattle.std.proofs.Common.{◌≡◌, ℕ, suc, ◌+◌, ◌-◌, ◌<◌, ◌≤◌, Bool, true, false, cond, length}
use Rattle.std.proofs.Common.{List, [], ◌∷◌, ◌++◌, Option, Some, None, refl, sym, ap, ◌∙◌, arith}
use Rattle.std.specs.Prelude.{nat_le, nat_lt, not, ◌&&◌, ◌||◌, ◌==◌, codes, is_some, count_by}
use Rattle.std.specs.Prelude.{unwrap_or, pos}
use Rattle.std.specs.List.{prefix_len}
use Rattle.std.specs.Str.{bytes_eq}
use Rattle.std.proofs.Math.Path.{fun_ext}
use Rattle.std.proofs.lemmas.List.{append-nil, length_push}
use Rattle.std.proofs.lemmas.Bool.Decides.{nat_tests}
use Rattle.pct_ask.specs.Tokens.{Token, Word, Symbol}
use Rattle.pct_ask.specs.Words.{is_among}
use Rattle.pct_ask.specs.NameLists.{NameLists, list_of, place_of}
use Rattle.pct_ask.specs.declared.names.NameKind.{NameKind}
use Rattle.pct_ask.specs.declared.names.NameKind.TheVariants as kinds
use Rattle.std.proofs.lemmas.Bool.{le-leb, lt-ltb, not-false}
use Rattle.script_tree.specs.Forms.{TokenForm, MeantForm, Thread, Yield, Assert, Set, If, While}
use Rattle.script_tree.specs.Forms.{value_in}
use Rattle.script_tree.specs.Forms.{tokens_of_form, IsFormOf, Means}
use Rattle.script_tree.specs.Lines.{version_of, begins_with, declared_name, names_of, opens, depth}
use Rattle.script_tree.specs.Lines.{threads_begun}
use Rattle.script_tree.specs.Faults as faults
use Rattle.script_tree.specs.Faults.{Place, SoFar, tokens_before, is_declared}
use Rattle.script_parse.specs.Part.{Open, ReadPart}
use Rattle.script_parse.specs.Part as parts
use Rattle.script_parse.specs.Reading as reading
use Rattle.script_parse.specs.Reading.{Finder, is_empty, is_in_if, so_far_in, is_known_name}
use Rattle.script_parse.specs.Reading.{with_form}
use Rattle.script_parse.proofs.Meanings.{by_meaning}
use Rattle.script_parse.proofs.Standing.{Lines, Stands, depth_is, is_if_at, quiet_at, on_quiet}
use Rattle.script_parse.proofs.Standing.{into_quiet, said_stands, plain_stands, valued_stands}
use Rattle.script_parse.proofs.Standing.{opens_stands, quiet_names, declared_names, end_stands_at}
use Rattle.script_parse.proofs.Standing.{else_stands_at, count_push, names_push}
use Rattle.script_parse.proofs.Choices.{same_bytes, clash}

open_opening : parts.Opening → Open
open_opening opening = record { opening = opening; done = [] }

at_zero : (blocks : List Open) → is_if_at 0 blocks ≡ is_in_if blocks
at_zero [] = refl
at_zero (block ∷ blocks) = refl

more_tests : (p l : ℕ) → nat_lt (1 + p) (suc l) ≡ nat_lt p l
more_tests p l = grind (arith, nat_tests)

some_if : (b : Bool) (n : ℕ) → is_some (cond b (Some n) None) ≡ b
some_if true n = refl
some_if false n = refl

found_first : (b : Bool) (p l : ℕ) (a : Bool) → nat_lt p l ≡ a
    → nat_lt (cond (not b) (1 + p) 0) (suc l) ≡ (b || a)
found_first true p l a h = lt-ltb 0 (suc l) (omega arith)
found_first false p l a h = more_tests p l ∙ h

some_within : (n m : ℕ) → is_some (cond (nat_lt n m) (Some n) None) ≡ nat_lt n m
some_within n m = some_if (nat_lt n m) n

found_among : (name : List ℕ) (names : List (List ℕ))
    → nat_lt (prefix_len (λ n. not (bytes_eq name n)) names) (length names) ≡ is_among name names
found_among name [] = refl
found_among name (n ∷ ns) =
    found_first (bytes_eq name n) (prefix_len (λ n. not (bytes_eq name n)) ns) (length ns)
    (is_among name ns) (found_among name ns)

is_some-place : (name : List ℕ) (names : List (List ℕ))
    → is_some (place_of name names) ≡ is_among name names
is_some-place name names =
    some_within (prefix_len (λ n. not (bytes_eq name n)) names) (length names)
    ∙ found_among name names

some_left : (names : List (List ℕ)) (name : List ℕ) → is_empty (names ++ name ∷ []) ≡ false
some_left names name =
    let some : 0 < length (names ++ name ∷ []) = omega (arith, length_push names name) in
    grind (arith, nat_tests)

-- what is read with a line that has no fault stands for it too
pub taken_stands : (version : ℕ) (part : ReadPart) (find : Finder) (n : ℕ) (lines : Lines)
    → Stands part lines → (cut : TokenForm) (meant : MeantForm) → Means cut meant
    → IsFormOf version cut → faults.closes_nothing (so_far_in part) meant ≡ false
    → Stands (with_form part find n meant) (lines ++ tokens_of_form cut ∷ [])
unfolding open_opening
taken_stands version part find n lines s =
    by_meaning (λ cut meant. IsFormOf version cut
    → faults.closes_nothing (so_far_in part) meant ≡ false
    → Stands (with_form part find n meant) (lines ++ tokens_of_form cut ∷ [])) (record {
      plain = λ kind name of c. plain_stands part lines kind name of.0 s;
      valued =
          λ kind name value of c. valued_stands part lines kind name
          (unwrap_or (value_in kind value) (pos 0)) (Symbol (codes "=") ∷ value) of.0 s;
      thread =
          λ name of c. opens_stands part (with_form part find n (Thread name)) lines
          (Word (codes "thread") ∷ Word name ∷ []) (open_opening (parts.Thread n)) refl refl refl
          refl (λ kind. declared_names part lines kinds.Thread kind name [] s) refl s;
      on = λ verb object of c. said_stands part _ lines _ (on_quiet verb (Word object ∷ [])) s;
      into = λ verb reg object of c. said_stands part _ lines _ (into_quiet verb _) s;
      write =
          λ var value tree of c. said_stands part _ lines _
          (quiet_at (codes "write") _ refl refl refl refl) s;
      add =
          λ reg var value tree of c. said_stands part _ lines _
          (quiet_at (codes "add") _ refl refl refl refl) s;
      cas =
          λ reg var old new a b of c. said_stands part _ lines _
          (quiet_at (codes "cas") _ refl refl refl refl) s;
      wait =
          λ waiting mutex of c. said_stands part _ lines _
          (quiet_at (codes "wait") _ refl refl refl refl) s;
      yield =
          λ of c. said_stands part (reading.statement_on part.names find n Yield) lines _
          (quiet_at (codes "yield") _ refl refl refl refl) s;
      assert =
          λ test tree of c. said_stands part (reading.statement_on part.names find n (Assert tree))
          lines _ (quiet_at (codes "assert") _ refl refl refl refl) s;
      set =
          λ reg value tree of c. said_stands part
          (reading.statement_on part.names find n (Set reg tree)) lines _
          (quiet_at (codes "set") _ refl refl refl refl) s;
      when =
          λ test tree of c. opens_stands part (with_form part find n (If tree)) lines
          (Word (codes "if") ∷ test) (open_opening (parts.If n tree)) refl refl refl refl
          (quiet_names (codes "if") test part lines refl s) refl s;
      while =
          λ test tree of c. opens_stands part (with_form part find n (While tree)) lines
          (Word (codes "while") ∷ test) (open_opening (parts.While n tree)) refl refl refl refl
          (quiet_names (codes "while") test part lines refl s) refl s;
      end = λ of c. end_stands_at part part.open_blocks lines n refl c s;
      otherwise =
          λ of c. else_stands_at part part.open_blocks lines n refl
          (not-false (is_in_if part.open_blocks) c) s;
    })

-- ---- what was read stands for what the lines have declared and begun

same_here : (v w d e : ℕ) (ns ms : NameLists) (i j : Bool) → v ≡ w → ns ≡ ms → d ≡ e → i ≡ j
    → ◌≡◌ {A = SoFar} (record { version = v; names = ns; depth = d; in_if = i })
    (record { version = w; names = ms; depth = e; in_if = j })
same_here v w d e ns ms i j p q r s = rw (p, q, r, s) refl

same_names : (names : NameLists) (lists : NameKind → List (List ℕ))
    → ((kind : NameKind) → lists kind ≡ list_of kind names)
    → ◌≡◌ {A = NameLists} (record {
      threads = lists kinds.Thread;
      vars = lists kinds.Var;
      mutexes = lists kinds.Mutex;
      conds = lists kinds.Cond;
      sems = lists kinds.Sem;
      barriers = lists kinds.Barrier;
      rwlocks = lists kinds.RwLock;
    }) names
same_names names lists h =
    rw (
      h kinds.Thread,
      h kinds.Var,
      h kinds.Mutex,
      h kinds.Cond,
      h kinds.Sem,
      h kinds.Barrier,
      h kinds.RwLock,
    ) refl

pub same_so_far : (part : ReadPart) (lines : Lines) → Stands part lines
    → faults.so_far lines ≡ so_far_in part
same_so_far part lines s =
    let version : version_of lines ≡ part.version =
    ap version_of (sym (append-nil lines)) ∙ s.version [] in
    same_here (version_of lines) part.version (depth lines) (length part.open_blocks)
    (faults.names_declared lines) part.names _ _
    version (same_names part.names (λ kind. names_of kind lines) s.names) (depth_is part lines s)
    (s.innermost 0 ∙ at_zero part.open_blocks)

module _ (part : ReadPart) (place : Place) (s : Stands part (tokens_before place)) where
  abbrev pub found : Finder
  found name = place_of name (threads_begun (place.before ++ place.line ∷ place.after))

  known_at : (kind : NameKind) (name : List ℕ)
      → is_declared place kind name ≡ is_known_name part.names found kind name
  known_at kinds.Thread name =
      sym (is_some-place name (threads_begun (place.before ++ place.line ∷ place.after)))
  known_at kind name = rw (s.names kind) (sym (is_some-place name (list_of kind part.names)))

  pub known_same : is_declared place ≡ is_known_name part.names found
  known_same = fun_ext (λ kind. fun_ext (λ name. known_at kind name))

-- ---- what is open behind a line, and whether a thread began

ends_opens : (line : List Token) → begins_with (codes "end") line ≡ true → opens line ≡ false
ends_opens (Word word ∷ rest) e =
    ap (λ (w : List ℕ). opens (Word w ∷ rest)) (same_bytes word (codes "end") e)
ends_opens line e = absurd cc

one_le : (b : Bool) → cond b 1 0 ≤ 1
one_le true = omega arith
one_le false = omega arith

begun_tests : (o e : ℕ) → e ≤ o → nat_le 1 ((o + 1) - (e + 0)) ≡ true
begun_tests o e h = le-leb 1 _ (omega arith)

ended_tests : (o e : ℕ) → nat_le 1 ((o + 0) - (e + 1)) ≡ nat_le 2 (o - e)
ended_tests o e = grind (arith, nat_tests)

other_tests : (o e : ℕ) → nat_le 1 ((o + 0) - (e + 0)) ≡ not ((o - e) == 0)
other_tests o e = grind (arith, nat_tests)

module _ (lines : Lines) (line : List Token) where
  abbrev begun : ℕ
  begun = count_by opens lines

  abbrev ended : ℕ
  ended = count_by (begins_with (codes "end")) lines

  depth_behind : depth (lines ++ line ∷ [])
      ≡ (begun + cond (opens line) 1 0) - (ended + cond (begins_with (codes "end") line) 1 0)
  depth_behind =
      rw (count_push opens lines line, count_push (begins_with (codes "end")) lines line) refl

  open_by : (o e : Bool) → (e ≡ true → o ≡ false) → ended ≤ begun
      → nat_le 1 ((begun + cond o 1 0) - (ended + cond e 1 0))
      ≡ (o || cond e (nat_le 2 (depth lines)) (not (depth lines == 0)))
  open_by true true h few = clash (h refl)
  open_by true false h few = begun_tests begun ended few
  open_by false true h few = ended_tests begun ended
  open_by false false h few = other_tests begun ended

  -- where no more blocks ended than began before, the line leaves a block open where one is open
  -- behind it
  pub leaves_open_same : ended ≤ begun
      → nat_le 1 (depth (lines ++ line ∷ [])) ≡ faults.leaves_open (faults.so_far lines) line
  leaves_open_same few =
      ap (nat_le 1) depth_behind
      ∙ open_by (opens line) (begins_with (codes "end") line) (ends_opens line) few

  -- behind a line with a block open no more blocks ended than began before
  pub few_ended : 1 ≤ depth (lines ++ line ∷ []) → ended ≤ begun
  few_ended deep = omega (arith, depth_behind, one_le (opens line))

  thread_by : (name : Option (List ℕ)) → declared_name kinds.Thread line ≡ name
      → is_empty (names_of kinds.Thread (lines ++ line ∷ []))
      ≡ (not (is_some name) && is_empty (names_of kinds.Thread lines))
  thread_by None e =
      rw (names_push kinds.Thread lines line, e, append-nil (names_of kinds.Thread lines)) refl
  thread_by (Some name) e =
      rw (names_push kinds.Thread lines line, e) (some_left (names_of kinds.Thread lines) name)

  -- no thread began up to the line where none of the lines up to it names one
  pub lacks_thread_same : is_empty (names_of kinds.Thread (lines ++ line ∷ []))
      ≡ faults.lacks_thread (faults.so_far lines) line
  lacks_thread_same = thread_by (declared_name kinds.Thread line) refl
