-- What a line of any form adds to the first values and the threads.
use Rattle.std.proofs.Common.{◌≡◌, ℕ, true, List, [], ◌∷◌, ◌++◌, Option, Some, None, refl, sym, ◌∙◌}
use Rattle.std.specs.Prelude.{ℤ, pos, codes, unwrap_or, is_some}
use Rattle.std.specs.List.{filter_map}
use Rattle.std.proofs.lemmas.List.{append-nil}
use Rattle.pct_ask.specs.Tokens.{Token, Word, Symbol}
use Rattle.pct_ask.specs.declared.names.NameKind.{NameKind}
use Rattle.pct_ask.specs.declared.names.NameKind.TheVariants as kinds
use Rattle.pct_ask.specs.declared.statement_verbs.OnVerb.TheVariants as on_verbs
use Rattle.pct_ask.specs.declared.statement_verbs.IntoVerb.TheVariants as into_verbs
use Rattle.pct_ask.specs.Words.{register_word}
use Rattle.pct_ask.specs.declared.statement_verbs.OnVerb.{OnVerb}
use Rattle.pct_ask.specs.declared.statement_verbs.IntoVerb.{IntoVerb}
use Rattle.pct_ask.specs.StatementVerbs.{on_word, into_word}
use Rattle.script_tree.specs.Trees.{Statement, Statements, closed_at}
use Rattle.script_tree.specs.Forms as forms
use Rattle.script_tree.specs.Forms.{TokenForm, MeantForm, Thread, On, Into, Write, Add, Cas, Wait}
use Rattle.script_tree.specs.Forms.{Yield, Assert, Set, If, While, End, Else, kind_word, has_value}
use Rattle.script_tree.specs.Forms.{is_plain, value_in, tokens_of_form, IsFormOf, Means}
use Rattle.script_tree.specs.Lines.{declared_value, values_of, just_thread}
use Rattle.script_parse.specs.Part.{Open, ReadPart}
use Rattle.script_parse.specs.Part as parts
use Rattle.pct_ask.specs.NameLists.{kind_in}
use Rattle.script_parse.specs.Reading as reading
use Rattle.script_parse.specs.Reading.{Finder, with_form}
use Rattle.script_parse.proofs.Meanings.{by_meaning}
use Rattle.script_parse.proofs.Standing.{no_kind}
use Rattle.script_parse.proofs.DeclaredValues.{AreValues, no_value_more, values_push, valueless_at}
use Rattle.script_parse.proofs.DeclaredValues.{threadless_at}

-- what stays the same but for the blocks
record KeepsDeclared (part next : ReadPart) : Type 0 where
  version : next.version ≡ part.version
  vars : next.vars ≡ part.vars
  sems : next.sems ≡ part.sems
  barriers : next.barriers ≡ part.barriers
  threads : next.names.threads ≡ part.names.threads

said_declared : (part : ReadPart) (statement : Option Statement)
    → KeepsDeclared part (reading.part_with_statement part statement)
said_declared part None = record {
  version = refl;
  vars = refl;
  sems = refl;
  barriers = refl;
  threads = refl;
}
said_declared part (Some s) = record {
  version = refl;
  vars = refl;
  sems = refl;
  barriers = refl;
  threads = refl;
}

closed_declared : (part : ReadPart) (blocks : List Open) (opening : parts.Opening)
    (body : Statements)
    → KeepsDeclared part (reading.closed_block (record part { open_blocks = blocks }) opening body)
closed_declared part blocks (parts.Thread line) body = record {
  version = refl;
  vars = refl;
  sems = refl;
  barriers = refl;
  threads = refl;
}
closed_declared part blocks opening body = record {
  version = refl;
  vars = refl;
  sems = refl;
  barriers = refl;
  threads = refl;
}

ended_declared : (part : ReadPart) (blocks : List Open) (n : ℕ)
    → KeepsDeclared part (reading.with_end part blocks n)
ended_declared part [] n = record {
  version = refl;
  vars = refl;
  sems = refl;
  barriers = refl;
  threads = refl;
}
ended_declared part (block ∷ blocks) n =
    closed_declared part blocks block.opening (closed_at n block.done)

turned_by_declared : (part : ReadPart) (block : Open) (blocks : List Open) (n : ℕ)
    (opening : parts.Opening) → KeepsDeclared part (reading.turned_by part block blocks n opening)
turned_by_declared part block blocks n (parts.Thread line) = record {
  version = refl;
  vars = refl;
  sems = refl;
  barriers = refl;
  threads = refl;
}
turned_by_declared part block blocks n opening = record {
  version = refl;
  vars = refl;
  sems = refl;
  barriers = refl;
  threads = refl;
}

turned_declared : (part : ReadPart) (blocks : List Open) (n : ℕ)
    → KeepsDeclared part (reading.with_else part blocks n)
turned_declared part [] n = record {
  version = refl;
  vars = refl;
  sems = refl;
  barriers = refl;
  threads = refl;
}
turned_declared part (block ∷ blocks) n = turned_by_declared part block blocks n block.opening

-- what a line adds: first values, and a thread
pub record Adds (part next : ReadPart) (lines : List (List Token)) (line : List Token) : Type
    0 where
  pub version : next.version ≡ part.version
  pub values : AreValues next (lines ++ line ∷ [])
  pub thread : part.names.threads ++ filter_map just_thread (line ∷ []) ≡ next.names.threads

quiet_adds : (part next : ReadPart) (lines : List (List Token)) (word : List ℕ) (rest : List Token)
    → kind_in word ≡ None → KeepsDeclared part next → AreValues part lines
    → Adds part next lines (Word word ∷ rest)
quiet_adds part next lines word rest k d h = record {
  version = d.version;
  values =
      no_value_more part next lines (Word word ∷ rest)
      (λ kind. valueless_at word rest kind (no_kind word k kind)) d.vars d.sems d.barriers h;
  thread =
      rw (threadless_at word rest (no_kind word k kinds.Thread))
      (append-nil part.names.threads ∙ sym d.threads);
}

pub on_none : (verb : OnVerb) → kind_in (on_word verb) ≡ None
on_none on_verbs.Lock = refl
on_none verb = refl

pub into_none : (verb : IntoVerb) → kind_in (into_word verb) ≡ None
into_none into_verbs.Read = refl
into_none verb = refl

plain_adds : (part : ReadPart) (lines : List (List Token)) (kind : NameKind) (name : List ℕ)
    → is_plain kind ≡ true → AreValues part lines
    → Adds part (reading.with_declared part kind name) lines
    (Word (kind_word kind) ∷ Word name ∷ [])
plain_adds part lines kinds.Mutex name p h = record {
  version = refl;
  values = no_value_more part (reading.with_declared part kinds.Mutex name) lines
      _ (λ kind. refl) refl refl refl h;
  thread = append-nil part.names.threads;
}
plain_adds part lines kinds.Cond name p h = record {
  version = refl;
  values = no_value_more part (reading.with_declared part kinds.Cond name) lines _
      (λ kind. refl) refl refl refl h;
  thread = append-nil part.names.threads;
}
plain_adds part lines kinds.RwLock name p h = record {
  version = refl;
  values = no_value_more part (reading.with_declared part kinds.RwLock name) lines
      _ (λ kind. refl) refl refl refl h;
  thread = append-nil part.names.threads;
}
plain_adds part lines kind name p h = absurd cc

push_value : (kind : NameKind) (lines : List (List Token)) (line : List Token) (values : List ℤ)
    (value : ℤ) → values_of kind lines ≡ values → declared_value kind line ≡ Some value
    → values_of kind (lines ++ line ∷ []) ≡ values ++ value ∷ []
push_value kind lines line values value h v = values_push kind lines line ∙ rw (h, v) refl

same_value : (kind : NameKind) (lines : List (List Token)) (line : List Token) (values : List ℤ)
    → values_of kind lines ≡ values → declared_value kind line ≡ None
    → values_of kind (lines ++ line ∷ []) ≡ values
same_value kind lines line values h v =
    values_push kind lines line ∙ rw v (append-nil (values_of kind lines) ∙ h)

some_value : (o : Option ℤ) → is_some o ≡ true → o ≡ Some (unwrap_or o (pos 0))
some_value (Some value) h = refl
some_value None h = absurd cc

valued_adds : (part : ReadPart) (lines : List (List Token)) (kind : NameKind) (name : List ℕ)
    (value : List Token) → has_value kind ≡ true → is_some (value_in kind value) ≡ true
    → AreValues part lines
    → Adds part (reading.with_first_value kind (unwrap_or (value_in kind value) (pos 0))
    (reading.with_declared part kind name)) lines
    (Word (kind_word kind) ∷ Word name ∷ Symbol (codes "=") ∷ value)
valued_adds part lines kinds.Var name value p s h = record {
  version = refl;
  values = record {
    vars = push_value kinds.Var lines _ part.vars _ h.vars
        (some_value (value_in kinds.Var value) s);
    sems = same_value kinds.Sem lines _ part.sems h.sems refl;
    barriers = same_value kinds.Barrier lines _ part.barriers h.barriers refl;
  };
  thread = append-nil part.names.threads;
}
valued_adds part lines kinds.Sem name value p s h = record {
  version = refl;
  values = record {
    vars = same_value kinds.Var lines _ part.vars h.vars refl;
    sems = push_value kinds.Sem lines _ part.sems _ h.sems
        (some_value (value_in kinds.Sem value) s);
    barriers = same_value kinds.Barrier lines _ part.barriers h.barriers refl;
  };
  thread = append-nil part.names.threads;
}
valued_adds part lines kinds.Barrier name value p s h = record {
  version = refl;
  values = record {
    vars = same_value kinds.Var lines _ part.vars h.vars refl;
    sems = same_value kinds.Sem lines _ part.sems h.sems refl;
    barriers = push_value kinds.Barrier lines _ part.barriers _ h.barriers
        (some_value (value_in kinds.Barrier value) s);
  };
  thread = append-nil part.names.threads;
}
valued_adds part lines kind name value p s h = absurd cc

-- what a line of any form adds
pub form_adds : (version : ℕ) (part : ReadPart) (find : Finder) (n : ℕ) (lines : List (List Token))
    → AreValues part lines → (cut : TokenForm) (meant : MeantForm) → Means cut meant
    → IsFormOf version cut → Adds part (with_form part find n meant) lines (tokens_of_form cut)
form_adds version part find n lines h =
    by_meaning (λ cut meant. IsFormOf version cut
    → Adds part (with_form part find n meant) lines (tokens_of_form cut)) (record {
      plain = λ kind name of. plain_adds part lines kind name of.0 h;
      valued = λ kind name value of. valued_adds part lines kind name value of.0 of.2 h;
      thread = λ name of. record {
        version = refl;
        values = no_value_more part (with_form part find n (Thread name)) lines
            (tokens_of_form (Thread name)) (λ kind. refl) refl refl refl h;
        thread = refl;
      };
      on =
          λ verb object of. quiet_adds part (with_form part find n (On verb object)) lines
          (on_word verb) (Word object ∷ []) (on_none verb)
          (said_declared part (reading.statement_on part.names find n (On verb object))) h;
      into =
          λ verb reg object of. quiet_adds part (with_form part find n (Into verb reg object)) lines
          (into_word verb) (Word (register_word reg) ∷ Word object ∷ []) (into_none verb)
          (said_declared part (reading.statement_on part.names find n (Into verb reg object))) h;
      write =
          λ var value tree of. quiet_adds part (with_form part find n (Write var tree)) lines
          (codes "write") (Word var ∷ value) refl
          (said_declared part (reading.statement_on part.names find n (Write var tree))) h;
      add =
          λ reg var value tree of. quiet_adds part (with_form part find n (Add reg var tree)) lines
          (codes "add") (Word (register_word reg) ∷ Word var ∷ value) refl
          (said_declared part (reading.statement_on part.names find n (Add reg var tree))) h;
      cas =
          λ reg var old new a b of. quiet_adds part (with_form part find n (Cas reg var a b)) lines
          (codes "cas")
          (Word (register_word reg) ∷ Word var ∷ (old ++ Symbol (codes ",") ∷ new)) refl
          (said_declared part (reading.statement_on part.names find n (Cas reg var a b))) h;
      wait =
          λ waiting mutex of. quiet_adds part (with_form part find n (Wait waiting mutex)) lines
          (codes "wait") (Word waiting ∷ Word mutex ∷ []) refl
          (said_declared part (reading.statement_on part.names find n (Wait waiting mutex))) h;
      yield =
          λ of. quiet_adds part (with_form part find n Yield) lines (codes "yield") [] refl
          (said_declared part (reading.statement_on part.names find n Yield)) h;
      assert =
          λ test tree of. quiet_adds part (with_form part find n (Assert tree)) lines
          (codes "assert") test refl (said_declared part
          (reading.statement_on part.names find n (Assert tree))) h;
      set =
          λ reg value tree of. quiet_adds part (with_form part find n (Set reg tree)) lines
          (codes "set") (Word (register_word reg) ∷ value) refl
          (said_declared part (reading.statement_on part.names find n (Set reg tree))) h;
      when =
          λ test tree of. quiet_adds part (with_form part find n (If tree)) lines (codes "if")
          test refl
          (record { version = refl; vars = refl; sems = refl; barriers = refl; threads = refl }) h;
      while =
          λ test tree of. quiet_adds part (with_form part find n (While tree)) lines (codes "while")
          test refl (record {
            version = refl;
            vars = refl;
            sems = refl;
            barriers = refl;
            threads = refl;
          }) h;
      end =
          λ of. quiet_adds part (with_form part find n End) lines (codes "end") [] refl
          (ended_declared part part.open_blocks n) h;
      otherwise =
          λ of. quiet_adds part (with_form part find n Else) lines (codes "else") [] refl
          (turned_declared part part.open_blocks n) h;
    })
