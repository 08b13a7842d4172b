-- A line of any form keeps what holds of what was read.
use Rattle.std.proofs.Common.{◌≡◌, ℕ, ◌+◌, ◌-◌, ◌<◌, ◌≤◌, Bool, true, false, cond, length, List, []}
use Rattle.std.proofs.Common.{◌∷◌, ◌++◌, Option, Some, None, refl, sym, ap, ◌∙◌, arith, subst}
use Rattle.std.specs.Prelude.{pos, nat_le, not, ◌&&◌, unwrap_or, is_some}
use Rattle.std.specs.Option.{option_map, option_and_then}
use Rattle.std.specs.Str.Parse.{digits_value}
use Rattle.std.proofs.lemmas.Int.{ints}
use Rattle.std.proofs.lemmas.Bool.{and_parts, leb-false, leb-true, not-false, not-true}
use Rattle.pct_ask.specs.Ranges.{IsSemValue, IsBarrierCount}
use Rattle.pct_ask.specs.Tokens.{Token, Number}
use Rattle.pct_ask.specs.NameLists.{with_name}
use Rattle.pct_ask.specs.declared.names.NameKind.{NameKind}
use Rattle.pct_ask.specs.declared.names.NameKind.TheVariants as kinds
use Rattle.pct_ask.specs.StatementVerbs.{on_kind, into_kind}
use Rattle.script_tree.specs.Trees.{Expression, Statement, closed_at}
use Rattle.script_tree.specs.Trees as trees
use Rattle.script_tree.specs.Forms.{TokenForm, MeantForm, Plain, Valued, Thread, On, Into, Write}
use Rattle.script_tree.specs.Forms.{Add, Cas, Wait, Yield, Assert, Set, If, While, End, Else}
use Rattle.script_tree.specs.Forms.{is_plain, has_value, value_in, kind_since, IsFormOf, Means}
use Rattle.script_tree.specs.Ranges.{value_fits}
use Rattle.script_tree.specs.Fitting.{line_fits, most_threads}
use Rattle.script_tree.specs.Grammar.{Line}
use Rattle.script_parse.specs.Part.{Open, ReadPart}
use Rattle.script_parse.specs.Part as parts
use Rattle.script_parse.specs.Reading as reading
use Rattle.script_parse.specs.Reading.{Finder, is_empty, is_in_if, with_form, with_first_value}
use Rattle.script_parse.specs.Reading.{with_declared, with_statement, place_in, on_statement}
use Rattle.script_parse.specs.Reading.{into_statement, statement_on}
use Rattle.script_parse.proofs.Meanings.{ForEach, by_meaning}
use Rattle.script_parse.proofs.LineFaults.{empty_is}
use Rattle.script_parse.proofs.StatementFits.{with_threads, finder, meant_fits, IsSaid, IsStatement}
use Rattle.script_parse.proofs.StatementFits.{said_each}
use Rattle.script_parse.proofs.OpenBlocks.{IsOpen, AreNested, say, open_more, close_if, close_while}
use Rattle.script_parse.proofs.OpenBlocks.{close_else, turn}
use Rattle.script_parse.proofs.HasRead.{HaveNames, HasRead, names_more, plain_values, valued_values}
use Rattle.script_parse.proofs.HasReadSteps.{declared_has, thread_has, inner_has, closed_has}
use Rattle.script_parse.proofs.Choices.{clash}
use Rattle.script_parse.proofs.FormFaults.{NoFault}

-- ---- first values

sem_value : (value : List Token) → value_fits kinds.Sem value ≡ true
    → IsSemValue (unwrap_or (value_in kinds.Sem value) (pos 0))
sem_value (Number digits ∷ []) h = let few = leb-true (digits_value 10 digits) 2147483647 h in
    (omega (arith, ints), omega (arith, ints, few))
sem_value value h = absurd cc

barrier_value : (value : List Token) → value_fits kinds.Barrier value ≡ true
    → IsBarrierCount (unwrap_or (value_in kinds.Barrier value) (pos 0))
barrier_value (Number digits ∷ []) h =
    let p = and_parts (nat_le 1 (digits_value 10 digits)) (nat_le (digits_value 10 digits) 1000)
    h in
    let some_ = leb-true 1 (digits_value 10 digits) p.0 in
    let few = leb-true (digits_value 10 digits) 1000 p.1 in
    (omega (arith, ints, some_), omega (arith, ints, few))
barrier_value value h = absurd cc

most_few : (version : ℕ) → most_threads version ≤ 64
most_few version = by_test (nat_le 3 version)
  where
    by_test : (b : Bool) → cond b 64 16 ≤ 64
    by_test true = omega arith
    by_test false = omega arith

-- ---- what is known

map_known : {A : Type 0} (f : ℕ → A) (o : Option ℕ) → not (is_some o) ≡ false
    → (x : A) × (option_map f o ≡ Some x)
map_known f None h = absurd cc
map_known f (Some n) h = (f n, refl)

both_known : (f : ℕ → ℕ → Statement) (a b : Option ℕ) → not (is_some a && is_some b) ≡ false
    → (x : Statement) × (option_and_then (λ c. option_map (f c) b) a ≡ Some x)
both_known f None b h = absurd cc
both_known f (Some n) None h = absurd cc
both_known f (Some n) (Some m) h = (f n m, refl)

some_open : {A : Type 0} (xs : List A) → is_empty xs ≡ false
    → (x : A) × (more : List A) × (xs ≡ x ∷ more)
some_open [] h = absurd cc
some_open (x ∷ more) h = (x, more, refl)

-- ---- one line more

module _ (threads : List (List ℕ)) (part : ReadPart) (lines : List Line) (n : ℕ) (last : Bool)
    (tokens : List Token) (h : HasRead threads part lines n) (on_line : line_fits (n + 1) ≡ true)
    (few_lines : n + 1 ≤ 4096) where
  abbrev find : Finder
  find = finder threads

  abbrev Keeps : TokenForm → MeantForm → Type 0
  Keeps cut meant = IsFormOf part.version cut → meant_fits meant ≡ true
      → NoFault part (finder threads) tokens meant
      → HasRead threads (with_form part (finder threads) (n + 1) meant)
      (lines ++ (n + 1, meant) ∷ []) (n + 1)

  room_of : {k : ℕ} → nat_le 64 k ≡ false → k < 64
  room_of {k} e = leb-false 64 k e

  plain_keeps : (kind : NameKind) (name : List ℕ) → Keeps (Plain kind name) (Plain kind name)
  plain_keeps kind name of f w =
      let none : part.names.threads ≡ [] = empty_is part.names.threads w.stands in
      let names = names_more part kind name h.names of.2 w.fresh (room_of w.few) of.1
      (λ e. not_thread kind of.0 e) in
      declared_has threads part (with_declared part kind name) lines n (n + 1, Plain kind name) h
      none refl names (plain_values part kind name of.0 h.values) (still kind of.0 ∙ none) refl
      refl refl
    where
      not_thread : {A : Type 0} (kind : NameKind) → is_plain kind ≡ true → kind ≡ kinds.Thread → A
      not_thread kind p e = clash (sym p ∙ ap is_plain e)

      still : (kind : NameKind) → is_plain kind ≡ true
          → (with_name kind name part.names).threads ≡ part.names.threads
      still kinds.Mutex p = refl
      still kinds.Cond p = refl
      still kinds.RwLock p = refl
      still kind p = absurd cc

  valued_keeps : (kind : NameKind) (name : List ℕ) (value : List Token)
      → Keeps (Valued kind name value) (Valued kind name value)
  valued_keeps kind name value of f w =
      let none : part.names.threads ≡ [] = empty_is part.names.threads w.stands in
      let names = names_more part kind name h.names of.1 w.fresh (room_of w.few) (since kind of.0)
      (λ e. not_thread kind of.0 e) in
      by_kind kind of.0 none names (not-false (value_fits kind value) w.in_range)
    where
      since : (kind : NameKind) → has_value kind ≡ true → kind_since kind ≤ part.version
      since kinds.Var p = h.first_version
      since kinds.Sem p = h.first_version
      since kinds.Barrier p = h.first_version
      since kind p = absurd cc

      not_thread : {A : Type 0} (kind : NameKind) → has_value kind ≡ true → kind ≡ kinds.Thread → A
      not_thread kind p e = clash (sym p ∙ ap has_value e)

      same_names : (part next : ReadPart) → HaveNames part → next.version ≡ part.version
          → next.names ≡ part.names → HaveNames next
      same_names part next h v n = record {
        are_names = rw n h.are_names;
        lawful = λ k. rw (v, n) (h.lawful k);
        few_threads = rw (v, n) h.few_threads;
        known_rwlocks = rw (v, n) h.known_rwlocks;
      }

      by_kind : (kind : NameKind) → has_value kind ≡ true → part.names.threads ≡ []
          → HaveNames (with_declared part kind name) → value_fits kind value ≡ true
          → HasRead threads (with_form part (finder threads) (n + 1) (Valued kind name value))
          (lines ++ (n + 1, Valued kind name value) ∷ []) (n + 1)
      by_kind kinds.Var p none names g =
          let next : ReadPart = with_first_value kinds.Var
          (unwrap_or (value_in kinds.Var value) (pos 0)) (with_declared part kinds.Var name) in
          declared_has threads part next lines n (n + 1, Valued kinds.Var name value) h none refl
          (same_names (with_declared part kinds.Var name) next names refl refl)
          (valued_values part kinds.Var name _ refl (λ e. absurd cc) (λ e. absurd cc) h.values)
          none refl refl refl
      by_kind kinds.Sem p none names g =
          let next : ReadPart = with_first_value kinds.Sem
          (unwrap_or (value_in kinds.Sem value) (pos 0)) (with_declared part kinds.Sem name) in
          declared_has threads part next lines n (n + 1, Valued kinds.Sem name value) h none refl
          (same_names (with_declared part kinds.Sem name) next names refl refl)
          (valued_values part kinds.Sem name _ refl (λ e. sem_value value g) (λ e. absurd cc)
          h.values) none refl refl refl
      by_kind kinds.Barrier p none names g =
          let next : ReadPart = with_first_value kinds.Barrier
          (unwrap_or (value_in kinds.Barrier value) (pos 0))
          (with_declared part kinds.Barrier name) in
          declared_has threads part next lines n (n + 1, Valued kinds.Barrier name value) h none
          refl (same_names (with_declared part kinds.Barrier name) next names refl refl)
          (valued_values part kinds.Barrier name _ refl (λ e. absurd cc)
          (λ e. barrier_value value g) h.values) none refl refl refl
      by_kind kind p none names g = absurd cc

  thread_keeps : (name : List ℕ) → Keeps (Thread name) (Thread name)
  thread_keeps name of f w =
      let fewer : length part.names.threads < most_threads part.version =
      leb-false (most_threads part.version) (length part.names.threads) w.few in
      let names = names_more part kinds.Thread name h.names of w.fresh
      (omega (arith, fewer, most_few part.version)) h.first_version (λ e. fewer) in
      thread_has threads part lines n (n + 1) name h (empty_is part.open_blocks w.stands) names
      on_line

  said_keeps : (meant : MeantForm) (s : Statement) → is_empty part.open_blocks ≡ false
      → IsSaid part.version (with_threads threads part.names) (n + 1) meant s
      → HasRead threads (reading.part_with_statement part (Some s)) (lines ++ (n + 1, meant) ∷ [])
      (n + 1)
  said_keeps meant s some_block is_said =
      let o = some_open part.open_blocks some_block in
      let block = o.0 in
      let outer = o.1 in
      let opened : IsOpen part.version (with_threads threads part.names) (o.0 ∷ o.1) h.current
      h.body n = subst (λ (bs : List Open).
      IsOpen part.version (with_threads threads part.names) bs h.current h.body n) o.2
      h.is_open in
      let next : with_statement s part.open_blocks ≡ with_statement s (o.0 ∷ o.1) =
      ap (with_statement s) o.2 in
      let said_ = say part.version (with_threads threads part.names) o.0 o.1 h.current h.body
      ((n + 1, meant) ∷ []) n (n + 1) s opened (is_said.fits (32 - length o.1)) is_said.lines
      (omega (arith, is_said.one)) in
      inner_has threads part (with_statement s part.open_blocks) o.0 _ o.1 o.1 lines n (n + 1)
      (n + 1, meant) h o.2 next (subst
      (λ (bs : List Open). IsOpen part.version (with_threads threads part.names) bs h.current
      (h.body ++ (n + 1, meant) ∷ []) (n + 1)) (sym next) said_)

  statement_keeps : (meant : MeantForm) (s : Statement) → is_empty part.open_blocks ≡ false
      → statement_on part.names (finder threads) (n + 1) meant ≡ Some s
      → IsSaid part.version (with_threads threads part.names) (n + 1) meant s
      → HasRead threads (reading.part_with_statement part
      (statement_on part.names (finder threads) (n + 1) meant)) (lines ++ (n + 1, meant) ∷ [])
      (n + 1)
  statement_keeps meant s some_block e is_said =
      subst (λ (o : Option Statement).
      HasRead threads (reading.part_with_statement part o) (lines ++ (n + 1, meant) ∷ [])
      (n + 1)) (sym e) (said_keeps meant s some_block is_said)

  each : ForEach (IsStatement part.version threads part.names (n + 1) on_line)
  each = said_each part.version threads part.names (n + 1) on_line

  inside : not (is_empty part.open_blocks) ≡ true → is_empty part.open_blocks ≡ false
  inside e = not-true (is_empty part.open_blocks) e

  if_keeps : (test : List Token) (tree : Expression) → Keeps (If test) (If tree)
  if_keeps test tree of f w =
      let o = some_open part.open_blocks (not-true (is_empty part.open_blocks) w.stands) in
      let few : length part.open_blocks < 33 = leb-false 33 (length part.open_blocks) w.few in
      let more = open_more part.version (with_threads threads part.names) part.open_blocks h.current
      h.body n (parts.If (n + 1) tree) (n + 1, If tree) h.is_open few (rw (on_line, f) refl)
      (subst (λ (bs : List Open). AreNested
      (record { opening = parts.If (n + 1) tree; done = [] } ∷ bs)) (sym o.2)
      (refl, subst AreNested o.2 h.is_open.nested)) (omega arith) refl in
      inner_has threads part (record { opening = parts.If (n + 1) tree; done = [] }
      ∷ part.open_blocks) o.0 (record { opening = parts.If (n + 1) tree; done = [] }) o.1
      part.open_blocks lines n (n + 1) (n + 1, If tree) h o.2 refl more

  while_keeps : (test : List Token) (tree : Expression) → Keeps (While test) (While tree)
  while_keeps test tree of f w =
      let o = some_open part.open_blocks (not-true (is_empty part.open_blocks) w.stands) in
      let few : length part.open_blocks < 33 = leb-false 33 (length part.open_blocks) w.few in
      let more = open_more part.version (with_threads threads part.names) part.open_blocks h.current
      h.body n (parts.While (n + 1) tree) (n + 1, While tree) h.is_open few
      (rw (on_line, f) refl)
      (subst (λ (bs : List Open). AreNested
      (record { opening = parts.While (n + 1) tree; done = [] } ∷ bs)) (sym o.2)
      (refl, subst AreNested o.2 h.is_open.nested)) (omega arith) refl in
      inner_has threads part (record { opening = parts.While (n + 1) tree; done = [] }
      ∷ part.open_blocks) o.0 (record { opening = parts.While (n + 1) tree; done = [] }) o.1
      part.open_blocks lines n (n + 1) (n + 1, While tree) h o.2 refl more

  abbrev Ends : List Open → Type 0
  Ends blocks =
      HasRead threads (reading.with_end part blocks (n + 1)) (lines ++ (n + 1, End) ∷ []) (n + 1)

  inner_end : (block outer : Open) (more : List Open) (s : Statement)
      → part.open_blocks ≡ block ∷ outer ∷ more
      → IsOpen part.version (with_threads threads part.names) (with_statement s (outer ∷ more))
      h.current (h.body ++ (n + 1, End) ∷ []) (n + 1)
      → HasRead threads (record part { open_blocks = with_statement s (outer ∷ more) })
      (lines ++ (n + 1, End) ∷ []) (n + 1)
  inner_end block outer more s e o =
      inner_has threads part (with_statement s (outer ∷ more)) block _ (outer ∷ more) more lines n
      (n + 1) (n + 1, End) h e refl o

  ends_by : (opening : parts.Opening) (done : List Statement) (blocks : List Open)
      → part.open_blocks ≡ record { opening = opening; done = done } ∷ blocks
      → Ends (record { opening = opening; done = done } ∷ blocks)
  ends_by (parts.Thread line) done [] e =
      closed_has threads part line (n + 1) n done lines h e on_line (omega (arith, few_lines))
  ends_by (parts.Thread line) done (outer ∷ more) e = clash ((subst AreNested e h.is_open.nested).0)
  ends_by (parts.If line test) done [] e = clash (sym (subst AreNested e h.is_open.nested))
  ends_by opening done [] e = clash (sym (subst AreNested e h.is_open.nested))
  ends_by (parts.If line test) done (outer ∷ more) e =
      inner_end (record { opening = parts.If line test; done = done }) outer more
      (trees.If line test (closed_at (n + 1) done)) e
      (close_if part.version (with_threads threads part.names) line test done outer more h.current
      h.body n (n + 1) (subst (λ (bs : List Open).
      IsOpen part.version (with_threads threads part.names) bs h.current h.body n) e h.is_open)
      on_line)
  ends_by (parts.While line test) done (outer ∷ more) e =
      inner_end (record { opening = parts.While line test; done = done }) outer more
      (trees.While line test (closed_at (n + 1) done)) e
      (close_while part.version (with_threads threads part.names) line test done outer more
      h.current h.body n (n + 1) (subst
      (λ (bs : List Open). IsOpen part.version (with_threads threads part.names) bs h.current
      h.body n) e h.is_open) on_line)
  ends_by (parts.Else line test first) done (outer ∷ more) e =
      inner_end (record { opening = parts.Else line test first; done = done }) outer more
      (trees.IfElse line test first (closed_at (n + 1) done)) e
      (close_else part.version (with_threads threads part.names) line test first done outer more
      h.current h.body n (n + 1) (subst
      (λ (bs : List Open). IsOpen part.version (with_threads threads part.names) bs h.current
      h.body n) e h.is_open) on_line)

  ends_at : (blocks : List Open) → part.open_blocks ≡ blocks → is_empty blocks ≡ false → Ends blocks
  ends_at [] e w = absurd cc
  ends_at (block ∷ blocks) e w = ends_by block.opening block.done blocks e

  turns_by : (opening : parts.Opening) (done : List Statement) (blocks : List Open)
      → part.open_blocks ≡ record { opening = opening; done = done } ∷ blocks
      → reading.is_if opening ≡ true → HasRead threads
      (reading.turned_by part (record { opening = opening; done = done }) blocks (n + 1) opening)
      (lines ++ (n + 1, Else) ∷ []) (n + 1)
  turns_by (parts.If line test) done blocks e w =
      inner_has threads part (record {
        opening = parts.Else line test (closed_at (n + 1) done);
        done = [];
      } ∷ blocks)
      (record { opening = parts.If line test; done = done })
      (record { opening = parts.Else line test (closed_at (n + 1) done); done = [] }) blocks
      blocks lines n (n + 1) (n + 1, Else) h e refl
      (turn part.version (with_threads threads part.names) line test done blocks h.current h.body n
      (n + 1) (subst (λ (bs : List Open).
      IsOpen part.version (with_threads threads part.names) bs h.current h.body n) e h.is_open)
      on_line)
  turns_by (parts.Thread line) done blocks e w = absurd cc
  turns_by opening done blocks e w = absurd cc

  turns_at : (blocks : List Open) → part.open_blocks ≡ blocks → is_in_if blocks ≡ true
      → HasRead threads (reading.with_else part blocks (n + 1)) (lines ++ (n + 1, Else) ∷ [])
      (n + 1)
  turns_at [] e w = absurd cc
  turns_at (block ∷ blocks) e w = turns_by block.opening block.done blocks e w

  -- whatever the form is
  pub form_keeps : (cut : TokenForm) (meant : MeantForm) → Means cut meant → Keeps cut meant
  form_keeps = by_meaning Keeps (record {
    plain = plain_keeps;
    valued = valued_keeps;
    thread = thread_keeps;
    on = λ verb object of f w.
        let k = map_known (on_statement verb (n + 1))
        (place_in part.names (finder threads) (on_kind verb) object) w.known in
        statement_keeps (On verb object) k.0 (inside w.stands) k.1
        (each.on verb object of f k.0 k.1);
    into = λ verb reg object of f w.
        let k = map_known (into_statement verb (n + 1) reg)
        (place_in part.names (finder threads) (into_kind verb) object) w.known in
        statement_keeps (Into verb reg object) k.0 (inside w.stands) k.1
        (each.into verb reg object of f k.0 k.1);
    write = λ var value tree of f w.
        let k = map_known (λ (x : ℕ). trees.Write (n + 1) x tree)
        (place_in part.names (finder threads) kinds.Var var) w.known in
        statement_keeps (Write var tree) k.0 (inside w.stands) k.1
        (each.write var value tree of f k.0 k.1);
    add = λ reg var value tree of f w.
        let k = map_known (λ (x : ℕ). trees.Add (n + 1) reg x tree)
        (place_in part.names (finder threads) kinds.Var var) w.known in
        statement_keeps (Add reg var tree) k.0 (inside w.stands) k.1
        (each.add reg var value tree of f k.0 k.1);
    cas = λ reg var old new a b of f w.
        let k = map_known (λ (x : ℕ). trees.Cas (n + 1) reg x a b)
        (place_in part.names (finder threads) kinds.Var var) w.known in
        statement_keeps (Cas reg var a b) k.0 (inside w.stands) k.1
        (each.cas reg var old new a b of f k.0 k.1);
    wait = λ waiting mutex of f w.
        let k = both_known (trees.Wait (n + 1))
        (place_in part.names (finder threads) kinds.Cond waiting)
        (place_in part.names (finder threads) kinds.Mutex mutex) w.known in
        statement_keeps (Wait waiting mutex) k.0 (inside w.stands) k.1
        (each.wait waiting mutex of f k.0 k.1);
    yield =
        λ of f w. statement_keeps Yield (trees.Yield (n + 1)) (inside w.stands) refl
        (each.yield of f (trees.Yield (n + 1)) refl);
    assert =
        λ test tree of f w. statement_keeps (Assert tree) (trees.Assert (n + 1) tree)
        (inside w.stands) refl (each.assert test tree of f (trees.Assert (n + 1) tree) refl);
    set =
        λ reg value tree of f w. statement_keeps (Set reg tree) (trees.Set (n + 1) reg tree)
        (inside w.stands) refl (each.set reg value tree of f (trees.Set (n + 1) reg tree) refl);
    when = if_keeps;
    while = while_keeps;
    end = λ of f w. ends_at part.open_blocks refl w.closes;
    otherwise =
        λ of f w. turns_at part.open_blocks refl (not-false (is_in_if part.open_blocks) w.closes);
  })
