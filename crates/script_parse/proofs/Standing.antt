-- What was read agrees with the lines that were read.
use Rattle.std.proofs.Common.{◌≡◌, ℕ, zero, suc, ◌+◌, ◌-◌, Bool, true, false, cond, length, List}
use Rattle.std.proofs.Common.{[], ◌∷◌, ◌++◌, reverse, Option, Some, None, refl, sym, ap, ◌∙◌}
use Rattle.std.proofs.Common.{append_assoc, add-one, arith}
use Rattle.std.specs.Prelude.{ℤ, ◌==◌, codes, count_by}
use Rattle.std.specs.List.{fold}
use Rattle.std.specs.Str.{bytes_eq}
use Rattle.std.proofs.lemmas.List.{append-nil, reverse-append}
use Rattle.std.proofs.lemmas.List.Elements.{filter_map-append}
use Rattle.std.proofs.lemmas.Bool.Decides.{nat_tests}
use Rattle.pct_ask.specs.Tokens.{Token, Word, Number, Symbol}
use Rattle.pct_ask.specs.NameLists.{NameLists, list_of, with_name}
use Rattle.pct_ask.specs.declared.names.NameKind.{NameKind}
use Rattle.pct_ask.specs.declared.names.NameKind.TheVariants as kinds
use Rattle.pct_ask.specs.declared.statement_verbs.OnVerb.TheVariants as on_verbs
use Rattle.pct_ask.specs.declared.statement_verbs.IntoVerb.TheVariants as into_verbs
use Rattle.pct_ask.specs.declared.statement_verbs.OnVerb.{OnVerb}
use Rattle.pct_ask.specs.declared.statement_verbs.IntoVerb.{IntoVerb}
use Rattle.pct_ask.specs.StatementVerbs.{on_word, into_word}
use Rattle.script_tree.specs.Trees.{Statement}
use Rattle.script_tree.specs.Trees as trees
use Rattle.script_tree.specs.Forms as forms
use Rattle.script_tree.specs.Forms.{kind_word, has_value, is_plain}
use Rattle.script_tree.specs.Lines.{version_of, begins_with, declared_name, names_of, opens, depth}
use Rattle.script_tree.specs.Lines.{opener}
use Rattle.script_parse.specs.Part.{Open, ReadPart}
use Rattle.script_parse.specs.Part as parts
use Rattle.pct_ask.specs.NameLists.{kind_in}
use Rattle.script_parse.specs.Reading as reading
use Rattle.script_parse.specs.Reading.{is_empty, is_if, is_in_if}
use Rattle.script_parse.proofs.Choices.{unchosen}

abbrev pub Lines : Type 0
Lines = List (List Token)

-- whether the block at a depth is an `if` without `else`
abbrev pub is_if_at : ℕ → List Open → Bool
is_if_at k [] = false
is_if_at zero (block ∷ blocks) = is_if block.opening
is_if_at (suc k) (block ∷ blocks) = is_if_at k blocks

-- what was read of lines agrees with them
pub record Stands (part : ReadPart) (lines : Lines) : Type 0 where
  pub version : (more : Lines) → version_of (lines ++ more) ≡ part.version
  pub names : (kind : NameKind) → names_of kind lines ≡ list_of kind part.names
  pub depths : count_by opens lines ≡ count_by (begins_with (codes "end")) lines
      + length part.open_blocks
  pub innermost : (k : ℕ) → begins_with (codes "if") (opener k (reverse lines))
      ≡ is_if_at k part.open_blocks

pub depth_is : (part : ReadPart) (lines : Lines) → Stands part lines
    → depth lines ≡ length part.open_blocks
depth_is part lines s = omega (arith, s.depths)

-- ---- one line more

fold_push : {A B : Type 0} (f : B → A → B) (b : B) (xs : List A) (x : A)
    → fold f b (xs ++ x ∷ []) ≡ f (fold f b xs) x
fold_push f b [] x = refl
fold_push f b (y ∷ ys) x = fold_push f (f b y) ys x

pub count_push : (p : List Token → Bool) (lines : Lines) (line : List Token)
    → count_by p (lines ++ line ∷ []) ≡ count_by p lines + cond (p line) 1 0
count_push p lines line = fold_push (λ a x. a + cond (p x) 1 0) 0 lines line

pub names_push : (kind : NameKind) (lines : Lines) (line : List Token)
    → names_of kind (lines ++ line ∷ []) ≡ names_of kind lines ++ names_of kind (line ∷ [])
names_push kind lines line = filter_map-append (declared_name kind) lines (line ∷ [])

pub reverse_push : (lines : Lines) (line : List Token)
    → reverse (lines ++ line ∷ []) ≡ line ∷ reverse lines
reverse_push lines line = reverse-append lines (line ∷ [])

-- a line that is blank changes nothing
pub blank_stands : (part : ReadPart) (lines : Lines) → Stands part lines
    → Stands part (lines ++ [] ∷ [])
blank_stands part lines s = record {
  version = λ more. ap version_of (append_assoc lines ([] ∷ []) more) ∙ s.version ([] ∷ more);
  names = λ kind. names_push kind lines [] ∙ append-nil (names_of kind lines) ∙ s.names kind;
  depths =
      rw (count_push opens lines [], count_push (begins_with (codes "end")) lines [])
      (omega (arith, s.depths));
  innermost = λ k. rw (reverse_push lines []) (s.innermost k);
}

-- ---- lines that declare nothing, and begin and end no block

pub record IsQuiet (line : List Token) : Type 0 where
  pub nameless : (kind : NameKind) → declared_name kind line ≡ None
  pub opens_none : opens line ≡ false
  pub ends_none : begins_with (codes "end") line ≡ false
  pub turns_none : begins_with (codes "else") line ≡ false

record IsNoKind (word : List ℕ) : Type 0 where
  no_thread : bytes_eq word (codes "thread") ≡ false
  no_var : bytes_eq word (codes "var") ≡ false
  no_mutex : bytes_eq word (codes "mutex") ≡ false
  no_cond : bytes_eq word (codes "cond") ≡ false
  no_sem : bytes_eq word (codes "sem") ≡ false
  no_barrier : bytes_eq word (codes "barrier") ≡ false
  no_rwlock : bytes_eq word (codes "rwlock") ≡ false

is_no_kind : (word : List ℕ) → kind_in word ≡ None → IsNoKind word
is_no_kind word e =
    let a = unchosen (bytes_eq word (codes "thread")) kinds.Thread _ e in
    let b = unchosen (bytes_eq word (codes "var")) kinds.Var _ a.1 in
    let c = unchosen (bytes_eq word (codes "mutex")) kinds.Mutex _ b.1 in
    let d = unchosen (bytes_eq word (codes "cond")) kinds.Cond _ c.1 in
    let f = unchosen (bytes_eq word (codes "sem")) kinds.Sem _ d.1 in
    let g = unchosen (bytes_eq word (codes "barrier")) kinds.Barrier _ f.1 in
    let h = unchosen (bytes_eq word (codes "rwlock")) kinds.RwLock _ g.1 in
    record {
      no_thread = a.0;
      no_var = b.0;
      no_mutex = c.0;
      no_cond = d.0;
      no_sem = f.0;
      no_barrier = g.0;
      no_rwlock = h.0;
    }

by_kind : (word : List ℕ) → IsNoKind word → (kind : NameKind)
    → bytes_eq word (kind_word kind) ≡ false
by_kind word n kinds.Thread = n.no_thread
by_kind word n kinds.Var = n.no_var
by_kind word n kinds.Mutex = n.no_mutex
by_kind word n kinds.Cond = n.no_cond
by_kind word n kinds.Sem = n.no_sem
by_kind word n kinds.Barrier = n.no_barrier
by_kind word n kinds.RwLock = n.no_rwlock

pub no_kind : (word : List ℕ) → kind_in word ≡ None → (kind : NameKind)
    → bytes_eq word (kind_word kind) ≡ false
no_kind word e kind = by_kind word (is_no_kind word e) kind

pub nameless_at : (word : List ℕ) (rest : List Token) (kind : NameKind)
    → bytes_eq word (kind_word kind) ≡ false → declared_name kind (Word word ∷ rest) ≡ None
nameless_at word [] kind h = refl
nameless_at word (Word name ∷ rest) kind h = rw h refl
nameless_at word (Number digits ∷ rest) kind h = refl
nameless_at word (Symbol signs ∷ rest) kind h = refl

pub quiet_at : (word : List ℕ) (rest : List Token) → kind_in word ≡ None
    → opens (Word word ∷ []) ≡ false → bytes_eq word (codes "end") ≡ false
    → bytes_eq word (codes "else") ≡ false → IsQuiet (Word word ∷ rest)
quiet_at word rest k o e t = record {
  nameless = λ kind. nameless_at word rest kind (no_kind word k kind);
  opens_none = o;
  ends_none = e;
  turns_none = t;
}

pub on_quiet : (verb : OnVerb) (rest : List Token) → IsQuiet (Word (on_word verb) ∷ rest)
on_quiet on_verbs.Lock rest = quiet_at _ rest refl refl refl refl
on_quiet verb rest = quiet_at _ rest refl refl refl refl

pub into_quiet : (verb : IntoVerb) (rest : List Token) → IsQuiet (Word (into_word verb) ∷ rest)
into_quiet into_verbs.Read rest = quiet_at _ rest refl refl refl refl
into_quiet verb rest = quiet_at _ rest refl refl refl refl

-- the open blocks are as many, and as many of them are an `if` without `else`
record AreAlike (before after : List Open) : Type 0 where
  same_length : length after ≡ length before
  same_ifs : (k : ℕ) → is_if_at k after ≡ is_if_at k before

same_at : (k : ℕ) (block : Open) (s : Statement) (blocks : List Open)
    → is_if_at k (reading.with_statement s (block ∷ blocks)) ≡ is_if_at k (block ∷ blocks)
same_at zero block s blocks = refl
same_at (suc k) block s blocks = refl

alike_said : (s : Statement) (blocks : List Open)
    → AreAlike blocks (reading.with_statement s blocks)
alike_said s [] = record { same_length = refl; same_ifs = λ k. refl }
alike_said s (block ∷ blocks) = record {
  same_length = refl;
  same_ifs = λ k. same_at k block s blocks;
}

quiet_stands : (part next : ReadPart) (lines : Lines) (line : List Token) → IsQuiet line
    → next.version ≡ part.version → next.names ≡ part.names
    → AreAlike part.open_blocks next.open_blocks → Stands part lines
    → Stands next (lines ++ line ∷ [])
quiet_stands part next lines line q v n a s = record {
  version =
      λ more. ap version_of (append_assoc lines (line ∷ []) more) ∙ s.version (line ∷ more) ∙ sym v;
  names =
      λ kind. names_push kind lines line
      ∙ rw (q.nameless kind) (append-nil (names_of kind lines) ∙ s.names kind
      ∙ ap (list_of kind) (sym n));
  depths =
      rw (
        count_push opens lines line,
        count_push (begins_with (codes "end")) lines line,
        q.opens_none,
        q.ends_none,
      ) (omega (arith, s.depths, a.same_length));
  innermost =
      λ k. rw (reverse_push lines line, q.ends_none, q.opens_none, q.turns_none)
      (s.innermost k ∙ sym (a.same_ifs k));
}

-- ---- declarations

pub declared_more : (kind k : NameKind) (name : List ℕ) (rest : List Token) (names : NameLists)
    → list_of k (with_name kind name names)
    ≡ list_of k names ++ names_of k ((Word (kind_word kind) ∷ Word name ∷ rest) ∷ [])
declared_more kinds.Thread kinds.Thread name rest names = refl
declared_more kinds.Var kinds.Var name rest names = refl
declared_more kinds.Mutex kinds.Mutex name rest names = refl
declared_more kinds.Cond kinds.Cond name rest names = refl
declared_more kinds.Sem kinds.Sem name rest names = refl
declared_more kinds.Barrier kinds.Barrier name rest names = refl
declared_more kinds.RwLock kinds.RwLock name rest names = refl
declared_more kind k name rest names = sym (append-nil (list_of k names))

pub declared_names : (part : ReadPart) (lines : Lines) (kind k : NameKind) (name : List ℕ)
    (rest : List Token) → Stands part lines
    → names_of k (lines ++ (Word (kind_word kind) ∷ Word name ∷ rest) ∷ [])
    ≡ list_of k (with_name kind name part.names)
declared_names part lines kind k name rest s =
    names_push k lines (Word (kind_word kind) ∷ Word name ∷ rest)
    ∙ ap (λ (xs : List (List ℕ)). xs ++ names_of k
    ((Word (kind_word kind) ∷ Word name ∷ rest) ∷ [])) (s.names k)
    ∙ sym (declared_more kind k name rest part.names)

pub kind_ends_none : (kind : NameKind)
    → (bytes_eq (kind_word kind) (codes "end") ≡ false)
    × (bytes_eq (kind_word kind) (codes "else") ≡ false)
kind_ends_none kinds.Thread = (refl, refl)
kind_ends_none kind = (refl, refl)

declares_stands : (part next : ReadPart) (lines : Lines) (kind : NameKind) (name : List ℕ)
    (rest : List Token) → opens (Word (kind_word kind) ∷ []) ≡ false → next.version ≡ part.version
    → next.names ≡ with_name kind name part.names → next.open_blocks ≡ part.open_blocks
    → Stands part lines
    → Stands next (lines ++ (Word (kind_word kind) ∷ Word name ∷ rest) ∷ [])
declares_stands part next lines kind name rest o v n b s =
    let line : List Token = Word (kind_word kind) ∷ Word name ∷ rest in
    let opens_none : opens line ≡ false = o in
    let ends_none : begins_with (codes "end") line ≡ false = (kind_ends_none kind).0 in
    let turns_none : begins_with (codes "else") line ≡ false = (kind_ends_none kind).1 in
    record {
      version =
          λ more. ap version_of (append_assoc lines (line ∷ []) more) ∙ s.version (line ∷ more)
          ∙ sym v;
      names = λ k. declared_names part lines kind k name rest s ∙ ap (list_of k) (sym n);
      depths =
          rw (
            count_push opens lines line,
            count_push (begins_with (codes "end")) lines line,
            opens_none,
            ends_none,
            b,
          ) (omega (arith, s.depths));
      innermost =
          λ k. rw (reverse_push lines line, ends_none, opens_none, turns_none, b) (s.innermost k);
    }

-- ---- blocks

opened_first : (line : List Token) (rest : Lines) → begins_with (codes "end") line ≡ false
    → opens line ≡ true → opener 0 (line ∷ rest) ≡ line
opened_first line rest e o = rw (e, o) refl

opened_later : (k : ℕ) (line : List Token) (rest : Lines) → begins_with (codes "end") line ≡ false
    → opens line ≡ true → opener (suc k) (line ∷ rest) ≡ opener k rest
opened_later k line rest e o =
    let apart : (suc k == 0) ≡ false = grind (arith, nat_tests) in
    let less : suc k - 1 ≡ k = omega arith in
    rw (e, o, apart) (ap (λ (n : ℕ). opener n rest) less)

pub opens_stands : (part next : ReadPart) (lines : Lines) (line : List Token) (block : Open)
    → opens line ≡ true → begins_with (codes "end") line ≡ false
    → begins_with (codes "if") line ≡ is_if block.opening → next.version ≡ part.version
    → ((kind : NameKind) → names_of kind (lines ++ line ∷ []) ≡ list_of kind next.names)
    → next.open_blocks ≡ block ∷ part.open_blocks → Stands part lines
    → Stands next (lines ++ line ∷ [])
opens_stands part next lines line block o e i v n b s = record {
  version =
      λ more. ap version_of (append_assoc lines (line ∷ []) more) ∙ s.version (line ∷ more) ∙ sym v;
  names = n;
  depths =
      rw (count_push opens lines line, count_push (begins_with (codes "end")) lines line, o, e, b)
      (omega (arith, s.depths));
  innermost = λ k. rw (reverse_push lines line, b) (inner k);
}
  where
    inner : (k : ℕ) → begins_with (codes "if") (opener k (line ∷ reverse lines))
        ≡ is_if_at k (block ∷ part.open_blocks)
    inner zero = ap (begins_with (codes "if")) (opened_first line (reverse lines) e o) ∙ i
    inner (suc k) =
        ap (begins_with (codes "if")) (opened_later k line (reverse lines) e o) ∙ s.innermost k

ends_stands : (part next : ReadPart) (lines : Lines) (line : List Token) (block : Open)
    (blocks : List Open) → begins_with (codes "end") line ≡ true → opens line ≡ false
    → ((kind : NameKind) → declared_name kind line ≡ None) → next.version ≡ part.version
    → next.names ≡ part.names
    → part.open_blocks ≡ block ∷ blocks → AreAlike blocks next.open_blocks → Stands part lines
    → Stands next (lines ++ line ∷ [])
ends_stands part next lines line block blocks e o m v n b a s = record {
  version =
      λ more. ap version_of (append_assoc lines (line ∷ []) more) ∙ s.version (line ∷ more) ∙ sym v;
  names =
      λ kind. names_push kind lines line
      ∙ rw (m kind) (append-nil (names_of kind lines) ∙ s.names kind ∙ ap (list_of kind) (sym n));
  depths =
      rw (count_push opens lines line, count_push (begins_with (codes "end")) lines line, o, e)
      (omega (arith, s.depths, ap length b, a.same_length));
  innermost =
      λ k. rw (reverse_push lines line, e)
      (s.innermost (k + 1) ∙ rw (b, add-one) (sym (a.same_ifs k)));
}

turns_stands : (part next : ReadPart) (lines : Lines) (line : List Token) (block turned : Open)
    (blocks : List Open) → begins_with (codes "end") line ≡ false → opens line ≡ false
    → begins_with (codes "else") line ≡ true → begins_with (codes "if") line ≡ is_if turned.opening
    → ((kind : NameKind) → declared_name kind line ≡ None) → next.version ≡ part.version
    → next.names ≡ part.names → part.open_blocks ≡ block ∷ blocks
    → next.open_blocks ≡ turned ∷ blocks → Stands part lines → Stands next (lines ++ line ∷ [])
turns_stands part next lines line block turned blocks e o t i m v n b c s = record {
  version =
      λ more. ap version_of (append_assoc lines (line ∷ []) more) ∙ s.version (line ∷ more) ∙ sym v;
  names =
      λ kind. names_push kind lines line
      ∙ rw (m kind) (append-nil (names_of kind lines) ∙ s.names kind ∙ ap (list_of kind) (sym n));
  depths =
      rw (count_push opens lines line, count_push (begins_with (codes "end")) lines line, o, e, c)
      (omega (arith, s.depths, ap length b));
  innermost = λ k. rw (reverse_push lines line, c) (inner k);
}
  where
    inner : (k : ℕ) → begins_with (codes "if") (opener k (line ∷ reverse lines))
        ≡ is_if_at k (turned ∷ blocks)
    inner zero = rw (e, o, t) i
    inner (suc k) =
        let apart : (suc k == 0) ≡ false = grind (arith, nat_tests) in
        let same : is_if_at (suc k) part.open_blocks ≡ is_if_at k blocks =
        ap (is_if_at (suc k)) b in
        rw (e, o, t, apart) (s.innermost (suc k) ∙ same)

-- ---- a form's line

alike_refl : (blocks : List Open) → AreAlike blocks blocks
alike_refl blocks = record { same_length = refl; same_ifs = λ k. refl }

pub said_stands : (part : ReadPart) (statement : Option Statement) (lines : Lines)
    (line : List Token)
    → IsQuiet line → Stands part lines
    → Stands (reading.part_with_statement part statement) (lines ++ line ∷ [])
said_stands part None lines line q s =
    quiet_stands part part lines line q refl refl (alike_refl part.open_blocks) s
said_stands part (Some statement) lines line q s =
    quiet_stands part (reading.part_with_statement part (Some statement)) lines line q refl refl
    (alike_said statement part.open_blocks) s

pub plain_opens_none : (kind : NameKind) → is_plain kind ≡ true
    → opens (Word (kind_word kind) ∷ []) ≡ false
plain_opens_none kinds.Mutex h = refl
plain_opens_none kinds.Cond h = refl
plain_opens_none kinds.RwLock h = refl
plain_opens_none kind h = absurd cc

pub plain_stands : (part : ReadPart) (lines : Lines) (kind : NameKind) (name : List ℕ)
    → is_plain kind ≡ true → Stands part lines
    → Stands (reading.with_declared part kind name)
    (lines ++ (Word (kind_word kind) ∷ Word name ∷ []) ∷ [])
plain_stands part lines kind name h s =
    declares_stands part (reading.with_declared part kind name) lines kind name []
    (plain_opens_none kind h) refl refl refl s

pub valued_stands : (part : ReadPart) (lines : Lines) (kind : NameKind) (name : List ℕ) (value : ℤ)
    (rest : List Token) → has_value kind ≡ true → Stands part lines
    → Stands (reading.with_first_value kind value (reading.with_declared part kind name))
    (lines ++ (Word (kind_word kind) ∷ Word name ∷ rest) ∷ [])
valued_stands part lines kinds.Var name value rest h s =
    declares_stands part (reading.with_first_value kinds.Var value
    (reading.with_declared part kinds.Var name)) lines kinds.Var name rest refl refl refl refl s
valued_stands part lines kinds.Sem name value rest h s =
    declares_stands part (reading.with_first_value kinds.Sem value
    (reading.with_declared part kinds.Sem name)) lines kinds.Sem name rest refl refl refl refl s
valued_stands part lines kinds.Barrier name value rest h s =
    declares_stands part (reading.with_first_value kinds.Barrier value
    (reading.with_declared part kinds.Barrier name)) lines kinds.Barrier name rest refl refl refl
    refl s
valued_stands part lines kind name value rest h s = absurd cc

pub quiet_names : (word : List ℕ) (rest : List Token) (part : ReadPart) (lines : Lines)
    → kind_in word ≡ None → Stands part lines → (kind : NameKind)
    → names_of kind (lines ++ (Word word ∷ rest) ∷ []) ≡ list_of kind part.names
quiet_names word rest part lines k s kind =
    names_push kind lines (Word word ∷ rest)
    ∙ rw (nameless_at word rest kind (no_kind word k kind))
    (append-nil (names_of kind lines) ∙ s.names kind)

pub end_stands_at : (part : ReadPart) (blocks : List Open) (lines : Lines) (n : ℕ)
    → part.open_blocks ≡ blocks → is_empty blocks ≡ false → Stands part lines
    → Stands (reading.with_end part blocks n) (lines ++ (Word (codes "end") ∷ []) ∷ [])
end_stands_at part [] lines n b e s = absurd cc
end_stands_at part (block ∷ blocks) lines n b e s =
    closed_stands block.opening (trees.closed_at n block.done)
  where
    inner : ReadPart
    inner = record part { open_blocks = blocks }

    closed_stands : (opening : parts.Opening) (body : trees.Statements)
        → Stands (reading.closed_block (record part { open_blocks = blocks }) opening body)
        (lines ++ (Word (codes "end") ∷ []) ∷ [])
    closed_stands (parts.Thread line) body =
        ends_stands part _ lines (Word (codes "end") ∷ []) block blocks refl refl
        (λ kind. nameless_at (codes "end") [] kind (no_kind (codes "end") refl kind)) refl refl b
        (alike_refl blocks) s
    closed_stands (parts.If line test) body =
        ends_stands part _ lines (Word (codes "end") ∷ []) block blocks refl refl
        (λ kind. nameless_at (codes "end") [] kind (no_kind (codes "end") refl kind)) refl refl b
        (alike_said _ blocks) s
    closed_stands opening body =
        ends_stands part _ lines (Word (codes "end") ∷ []) block blocks refl refl
        (λ kind. nameless_at (codes "end") [] kind (no_kind (codes "end") refl kind)) refl refl b
        (alike_said _ blocks) s

pub else_stands_at : (part : ReadPart) (blocks : List Open) (lines : Lines) (n : ℕ)
    → part.open_blocks ≡ blocks → is_in_if blocks ≡ true → Stands part lines
    → Stands (reading.with_else part blocks n) (lines ++ (Word (codes "else") ∷ []) ∷ [])
else_stands_at part [] lines n b e s = absurd cc
else_stands_at part (block ∷ blocks) lines n b e s = turned_stands block.opening e
  where
    turned_stands : (opening : parts.Opening) → is_if opening ≡ true
        → Stands (reading.turned_by part block blocks n opening)
        (lines ++ (Word (codes "else") ∷ []) ∷ [])
    turned_stands (parts.If line test) h =
        turns_stands part _ lines (Word (codes "else") ∷ []) block _ blocks refl refl refl refl
        (λ kind. nameless_at (codes "else") [] kind (no_kind (codes "else") refl kind)) refl refl b
        refl s
    turned_stands (parts.Thread line) h = absurd cc
    turned_stands opening h = absurd cc
