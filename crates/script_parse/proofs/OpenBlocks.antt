-- The open blocks hold the lines that were read since their thread began.
use Rattle.std.proofs.Common.{◌≡◌, ℕ, ◌+◌, ◌-◌, ◌<◌, ◌≤◌, Bool, true, false, length, List, [], ◌∷◌}
use Rattle.std.proofs.Common.{◌++◌, refl, sym, ap, ◌∙◌, append_assoc, arith, subst}
use Rattle.std.specs.Prelude.{◌&&◌}
use Rattle.std.specs.List.{list_all}
use Rattle.std.proofs.lemmas.List.{append-nil}
use Rattle.std.proofs.lemmas.List.Folds.{list_all-append}
use Rattle.std.proofs.lemmas.Bool.{le-leb, lt-ltb, and_parts}
use Rattle.pct_ask.specs.NameLists.{NameLists}
use Rattle.script_tree.specs.Trees.{Expression, Statement, Statements, closed_at}
use Rattle.script_tree.specs.Trees as trees
use Rattle.script_tree.specs.Forms.{MeantForm}
use Rattle.script_tree.specs.Forms as forms
use Rattle.script_tree.specs.Fitting.{line_fits, expression_fits, count_of, counts_of}
use Rattle.script_tree.specs.Fitting.{statement_fits, statements_fit, thread_fits}
use Rattle.script_tree.specs.Grammar.{Line, statement_lines, block_lines, thread_lines}
use Rattle.script_parse.specs.Part.{Opening, Thread, If, Else, While, Open}
use Rattle.script_parse.specs.Reading.{with_statement}

abbrev pub weight : List Statement → ℕ
weight [] = 0
weight (s ∷ ss) = count_of s + weight ss

abbrev pub opening_weight : Opening → ℕ
opening_weight (Thread line) = 0
opening_weight (If line test) = 1
opening_weight (Else line test first) = 1 + counts_of first
opening_weight (While line test) = 1

abbrev pub open_weight : List Open → ℕ
open_weight [] = 0
open_weight (block ∷ outer) = opening_weight block.opening + weight block.done + open_weight outer

abbrev pub is_thread : Opening → Bool
is_thread (Thread line) = true
is_thread opening = false

-- the outermost block is the thread, and no other
abbrev pub AreNested : List Open → Type 0
AreNested [] = Unit {0}
AreNested (block ∷ []) = is_thread block.opening ≡ true
AreNested (block ∷ outer ∷ more) = (is_thread block.opening ≡ false) × AreNested (outer ∷ more)

weight_push : (ss : List Statement) (s : Statement) → weight (ss ++ s ∷ []) ≡ weight ss + count_of s
weight_push [] s = omega arith
weight_push (t ∷ ts) s = rw (weight_push ts s) (omega arith)

closed_weight : (line : ℕ) (ss : List Statement) → counts_of (closed_at line ss) ≡ weight ss
closed_weight line [] = refl
closed_weight line (s ∷ ss) = ap (λ (n : ℕ). count_of s + n) (closed_weight line ss)

module _ (version : ℕ) (names : NameLists) where
  abbrev pub statements_lines : List Statement → List Line
  statements_lines [] = []
  statements_lines (s ∷ ss) = statement_lines names s ++ statements_lines ss

  abbrev pub opening_lines : List ℕ → Opening → List Line
  opening_lines name (Thread line) = (line, forms.Thread name) ∷ []
  opening_lines name (If line test) = (line, forms.If test) ∷ []
  opening_lines name (Else line test first) =
      (line, forms.If test) ∷ block_lines names forms.Else first
  opening_lines name (While line test) = (line, forms.While test) ∷ []

  abbrev pub open_lines : List ℕ → List Open → List Line
  open_lines name [] = []
  open_lines name (block ∷ outer) =
      open_lines name outer ++ (opening_lines name block.opening ++ statements_lines block.done)

  -- the room is that inside the block
  abbrev pub opening_fits : ℕ → Opening → Bool
  opening_fits room (Thread line) = line_fits line
  opening_fits room (If line test) = line_fits line && expression_fits test
  opening_fits room (Else line test first) =
      line_fits line && expression_fits test && statements_fit version names room first
  opening_fits room (While line test) = line_fits line && expression_fits test

  abbrev pub block_fits : ℕ → Open → Bool
  block_fits room block =
      opening_fits room block.opening && list_all (statement_fits version names room) block.done

  abbrev pub open_fits : List Open → Bool
  open_fits [] = true
  open_fits (block ∷ outer) = block_fits (32 - length outer) block && open_fits outer

  pub record IsOpen (open_blocks : List Open) (name : List ℕ) (lines : List Line) (n : ℕ) : Type
      0 where
    pub fits : open_fits open_blocks ≡ true
    pub nested : AreNested open_blocks
    pub few : length open_blocks ≤ 33
    pub light : open_weight open_blocks ≤ n
    pub lines_are : lines ≡ open_lines name open_blocks

  lines_push : (ss : List Statement) (s : Statement)
      → statements_lines (ss ++ s ∷ []) ≡ statements_lines ss ++ statement_lines names s
  lines_push [] s = append-nil (statement_lines names s)
  lines_push (t ∷ ts) s =
      ap (λ (ls : List Line). statement_lines names t ++ ls) (lines_push ts s)
      ∙ sym (append_assoc (statement_lines names t) (statements_lines ts) (statement_lines names s))

  closed_lines : (closing : MeantForm) (line : ℕ) (ss : List Statement)
      → block_lines names closing (closed_at line ss) ≡ statements_lines ss ++ (line, closing) ∷ []
  closed_lines closing line [] = refl
  closed_lines closing line (s ∷ ss) =
      ap (λ (ls : List Line). statement_lines names s ++ ls) (closed_lines closing line ss)
      ∙ sym (append_assoc (statement_lines names s) (statements_lines ss) ((line, closing) ∷ []))

  closed_fits : (room line : ℕ) (ss : List Statement)
      → list_all (statement_fits version names room) ss ≡ true → line_fits line ≡ true
      → statements_fit version names room (closed_at line ss) ≡ true
  closed_fits room line [] h l = l
  closed_fits room line (s ∷ ss) h l =
      let p = and_parts (statement_fits version names room s)
      (list_all (statement_fits version names room) ss) h in
      rw (p.0, closed_fits room line ss p.1 l) refl

  all_push : (room : ℕ) (ss : List Statement) (s : Statement)
      → list_all (statement_fits version names room) ss ≡ true
      → statement_fits version names room s ≡ true
      → list_all (statement_fits version names room) (ss ++ s ∷ []) ≡ true
  all_push room ss s h f =
      list_all-append (statement_fits version names room) ss (s ∷ []) ∙ rw (h, f) refl

  nested_said : (s : Statement) (blocks : List Open) → AreNested blocks
      → AreNested (with_statement s blocks)
  nested_said s [] h = h
  nested_said s blocks h = h

  -- a statement at the end of the innermost block, with its lines at the end of the lines
  pub say : (block : Open) (outer : List Open) (name : List ℕ) (lines more : List Line) (n m : ℕ)
      (s : Statement) → IsOpen (block ∷ outer) name lines n
      → statement_fits version names (32 - length outer) s ≡ true → statement_lines names s ≡ more
      → n + count_of s ≤ m
      → IsOpen (with_statement s (block ∷ outer)) name (lines ++ more) m
  say block outer name lines more n m s h f l w =
      let p = and_parts (block_fits (32 - length outer) block) (open_fits outer) h.fits in
      let q = and_parts (opening_fits (32 - length outer) block.opening)
      (list_all (statement_fits version names (32 - length outer)) block.done) p.0 in
      record {
        fits = rw (q.0, all_push (32 - length outer) block.done s q.1 f, p.1) refl;
        nested = nested_said s (block ∷ outer) h.nested;
        few = h.few;
        light = omega (arith, weight_push block.done s, h.light, w);
        lines_are =
            rw (h.lines_are, lines_push block.done s, l)
            (append_assoc (open_lines name outer)
            (opening_lines name block.opening ++ statements_lines block.done) more
            ∙ ap (λ (ls : List Line). open_lines name outer ++ ls)
            (append_assoc (opening_lines name block.opening) (statements_lines block.done)
            more));
      }

  -- a block more
  pub open_more : (blocks : List Open) (name : List ℕ) (lines : List Line) (n : ℕ)
      (opening : Opening) (line : Line) → IsOpen blocks name lines n → length blocks < 33
      → opening_fits (32 - length blocks) opening ≡ true
      → AreNested (record { opening = opening; done = [] } ∷ blocks) → opening_weight opening ≤ 1
      → opening_lines name opening ≡ line ∷ []
      → IsOpen (record { opening = opening; done = [] } ∷ blocks) name (lines ++ line ∷ []) (n + 1)
  open_more blocks name lines n opening line h few f nested w l = record {
    fits = rw (f, h.fits) refl;
    nested = nested;
    few = omega (arith, few);
    light = omega (arith, h.light, w);
    lines_are = rw (h.lines_are, l) refl;
  }

  outer_open : (block outer : Open) (more : List Open) (name : List ℕ) (lines : List Line) (n : ℕ)
      → IsOpen (block ∷ outer ∷ more) name lines n
      → IsOpen (outer ∷ more) name (open_lines name (outer ∷ more)) (open_weight (outer ∷ more))
  outer_open block outer more name lines n h =
      let p = and_parts (block_fits (32 - length (outer ∷ more)) block) (open_fits (outer ∷ more))
      h.fits in
      record {
        fits = p.1;
        nested = h.nested.1;
        few = omega (arith, h.few);
        light = omega arith;
        lines_are = refl;
      }

  -- a block inside a thread is closed: it is a statement of the block around it
  close_inner : (block outer : Open) (more : List Open) (name : List ℕ) (lines : List Line)
      (n end : ℕ) (s : Statement) → IsOpen (block ∷ outer ∷ more) name lines n
      → statement_fits version names (32 - length more) s ≡ true
      → statement_lines names s ≡ (opening_lines name block.opening ++ statements_lines block.done)
      ++ (end, forms.End) ∷ [] → count_of s ≡ opening_weight block.opening + weight block.done
      → IsOpen (with_statement s (outer ∷ more)) name (lines ++ (end, forms.End) ∷ []) (n + 1)
  close_inner block outer more name lines n end s h f l w =
      let said = say outer more name (open_lines name (outer ∷ more)) (statement_lines names s)
      (open_weight (outer ∷ more)) (n + 1) s (outer_open block outer more name lines n h) f refl
      (omega (arith, h.light, w)) in
      let same : open_lines name (outer ∷ more) ++ statement_lines names s
      ≡ lines ++ (end, forms.End) ∷ [] =
      ap (λ (ls : List Line). open_lines name (outer ∷ more) ++ ls) l
      ∙ sym (append_assoc (open_lines name (outer ∷ more))
      (opening_lines name block.opening ++ statements_lines block.done) ((end, forms.End) ∷ []))
      ∙ ap (λ (ls : List Line). ls ++ (end, forms.End) ∷ []) (sym h.lines_are) in
      subst (λ (ls : List Line). IsOpen (with_statement s (outer ∷ more)) name ls (n + 1)) same said

  room_inside : (more : List Open) → length more + 2 ≤ 33
      → (0 < 32 - length more) × (32 - length more - 1 ≡ 32 - (length more + 1))
  room_inside more h = (omega (arith, h), omega (arith, h))

  if_fits : (line : ℕ) (test : Expression) (body : Statements) (more : List Open)
      → length more + 2 ≤ 33 → line_fits line ≡ true → expression_fits test ≡ true
      → statements_fit version names (32 - (length more + 1)) body ≡ true
      → statement_fits version names (32 - length more) (trees.If line test body) ≡ true
  if_fits line test body more few l t b = let r = room_inside more few in
      rw (l, t, lt-ltb 0 (32 - length more) r.0, r.1, b) refl

  while_fits : (line : ℕ) (test : Expression) (body : Statements) (more : List Open)
      → length more + 2 ≤ 33 → line_fits line ≡ true → expression_fits test ≡ true
      → statements_fit version names (32 - (length more + 1)) body ≡ true
      → statement_fits version names (32 - length more) (trees.While line test body) ≡ true
  while_fits line test body more few l t b = let r = room_inside more few in
      rw (l, t, lt-ltb 0 (32 - length more) r.0, r.1, b) refl

  else_fits : (line : ℕ) (test : Expression) (first body : Statements) (more : List Open)
      → length more + 2 ≤ 33 → line_fits line ≡ true → expression_fits test ≡ true
      → statements_fit version names (32 - (length more + 1)) first ≡ true
      → statements_fit version names (32 - (length more + 1)) body ≡ true
      → statement_fits version names (32 - length more) (trees.IfElse line test first body) ≡ true
  else_fits line test first body more few l t a b = let r = room_inside more few in
      rw (l, t, lt-ltb 0 (32 - length more) r.0, r.1, a, b) refl

  inner_room : (outer : Open) (more : List Open)
      → 32 - length (outer ∷ more) ≡ 32 - (length more + 1)
  inner_room outer more = omega arith

  pub close_if : (line : ℕ) (test : Expression) (done : List Statement) (outer : Open)
      (more : List Open) (name : List ℕ) (lines : List Line) (n end : ℕ)
      → IsOpen (record { opening = If line test; done = done } ∷ outer ∷ more) name lines n
      → line_fits end ≡ true
      → IsOpen (with_statement (trees.If line test (closed_at end done)) (outer ∷ more)) name
      (lines ++ (end, forms.End) ∷ []) (n + 1)
  close_if line test done outer more name lines n end h l =
      let block : Open = record { opening = If line test; done = done } in
      let p = and_parts (block_fits (32 - length (outer ∷ more)) block) (open_fits (outer ∷ more))
      h.fits in
      let q = and_parts (line_fits line && expression_fits test)
      (list_all (statement_fits version names (32 - length (outer ∷ more))) done) p.0 in
      let r = and_parts (line_fits line) (expression_fits test) q.0 in
      let body : statements_fit version names (32 - (length more + 1)) (closed_at end done) ≡ true =
      subst (λ (room : ℕ). statements_fit version names room (closed_at end done) ≡ true)
      (inner_room outer more) (closed_fits (32 - length (outer ∷ more)) end done q.1 l) in
      close_inner block outer more name lines n end (trees.If line test (closed_at end done)) h
      (if_fits line test (closed_at end done) more (omega (arith, h.few)) r.0 r.1 body)
      (ap (λ (ls : List Line). (line, forms.If test) ∷ ls) (closed_lines forms.End end done))
      (ap (λ (k : ℕ). 1 + k) (closed_weight end done))

  pub close_while : (line : ℕ) (test : Expression) (done : List Statement) (outer : Open)
      (more : List Open) (name : List ℕ) (lines : List Line) (n end : ℕ)
      → IsOpen (record { opening = While line test; done = done } ∷ outer ∷ more) name lines n
      → line_fits end ≡ true
      → IsOpen (with_statement (trees.While line test (closed_at end done)) (outer ∷ more)) name
      (lines ++ (end, forms.End) ∷ []) (n + 1)
  close_while line test done outer more name lines n end h l =
      let block : Open = record { opening = While line test; done = done } in
      let p = and_parts (block_fits (32 - length (outer ∷ more)) block) (open_fits (outer ∷ more))
      h.fits in
      let q = and_parts (line_fits line && expression_fits test)
      (list_all (statement_fits version names (32 - length (outer ∷ more))) done) p.0 in
      let r = and_parts (line_fits line) (expression_fits test) q.0 in
      let body : statements_fit version names (32 - (length more + 1)) (closed_at end done) ≡ true =
      subst (λ (room : ℕ). statements_fit version names room (closed_at end done) ≡ true)
      (inner_room outer more) (closed_fits (32 - length (outer ∷ more)) end done q.1 l) in
      close_inner block outer more name lines n end (trees.While line test (closed_at end done)) h
      (while_fits line test (closed_at end done) more (omega (arith, h.few)) r.0 r.1 body)
      (ap (λ (ls : List Line). (line, forms.While test) ∷ ls) (closed_lines forms.End end done))
      (ap (λ (k : ℕ). 1 + k) (closed_weight end done))

  pub close_else : (line : ℕ) (test : Expression) (first : Statements) (done : List Statement)
      (outer : Open) (more : List Open) (name : List ℕ) (lines : List Line) (n end : ℕ)
      → IsOpen (record { opening = Else line test first; done = done } ∷ outer ∷ more) name lines n
      → line_fits end ≡ true
      → IsOpen (with_statement (trees.IfElse line test first (closed_at end done)) (outer ∷ more))
      name (lines ++ (end, forms.End) ∷ []) (n + 1)
  close_else line test first done outer more name lines n end h l =
      let block : Open = record { opening = Else line test first; done = done } in
      let room : ℕ = 32 - length (outer ∷ more) in
      let p = and_parts (block_fits (32 - length (outer ∷ more)) block) (open_fits (outer ∷ more))
      h.fits in
      let q = and_parts (line_fits line && expression_fits test
      && statements_fit version names (32 - length (outer ∷ more)) first)
      (list_all (statement_fits version names (32 - length (outer ∷ more))) done) p.0 in
      let t = and_parts (line_fits line && expression_fits test)
      (statements_fit version names (32 - length (outer ∷ more)) first) q.0 in
      let r = and_parts (line_fits line) (expression_fits test) t.0 in
      let front : statements_fit version names (32 - (length more + 1)) first ≡ true =
      subst (λ (room : ℕ). statements_fit version names room first ≡ true)
      (inner_room outer more) t.1 in
      let body : statements_fit version names (32 - (length more + 1)) (closed_at end done) ≡ true =
      subst (λ (room : ℕ). statements_fit version names room (closed_at end done) ≡ true)
      (inner_room outer more) (closed_fits (32 - length (outer ∷ more)) end done q.1 l) in
      close_inner block outer more name lines n end
      (trees.IfElse line test first (closed_at end done)) h
      (else_fits line test first (closed_at end done) more (omega (arith, h.few)) r.0 r.1 front
      body)
      (ap (λ (ls : List Line). (line, forms.If test) ∷ ls)
      (ap (λ (ls : List Line). block_lines names forms.Else first ++ ls)
      (closed_lines forms.End end done)
      ∙ sym (append_assoc (block_lines names forms.Else first) (statements_lines done)
      ((end, forms.End) ∷ []))))
      (rw (closed_weight end done) (omega arith))

  -- an `else` closes the first block of an `if`
  pub turn : (line : ℕ) (test : Expression) (done : List Statement) (outer : List Open)
      (name : List ℕ) (lines : List Line) (n end : ℕ)
      → IsOpen (record { opening = If line test; done = done } ∷ outer) name lines n
      → line_fits end ≡ true
      → IsOpen (record { opening = Else line test (closed_at end done); done = [] } ∷ outer) name
      (lines ++ (end, forms.Else) ∷ []) (n + 1)
  turn line test done outer name lines n end h l =
      let block : Open = record { opening = If line test; done = done } in
      let p = and_parts (block_fits (32 - length outer) block) (open_fits outer) h.fits in
      let q = and_parts (line_fits line && expression_fits test)
      (list_all (statement_fits version names (32 - length outer)) done) p.0 in
      record {
        fits = rw (q.0, closed_fits (32 - length outer) end done q.1 l, p.1) refl;
        nested = turned_nested outer h.nested;
        few = h.few;
        light = omega (arith, h.light, closed_weight end done);
        lines_are =
            rw (
              h.lines_are,
              closed_lines forms.Else end done,
              append-nil (statements_lines done ++ (end, forms.Else) ∷ []),
            )
            (append_assoc (open_lines name outer) ((line, forms.If test) ∷ statements_lines done)
            ((end, forms.Else) ∷ []));
      }
    where
      turned_nested : (outer : List Open)
          → AreNested (record { opening = If line test; done = done } ∷ outer)
          → AreNested (record { opening = Else line test (closed_at end done); done = [] } ∷ outer)
      turned_nested [] h = absurd cc
      turned_nested (o ∷ more) h = h

  -- a thread is closed
  pub close_thread : (line : ℕ) (done : List Statement) (name : List ℕ) (lines : List Line)
      (n end : ℕ) → IsOpen (record { opening = Thread line; done = done } ∷ []) name lines n
      → line_fits end ≡ true → n ≤ 4096
      → (thread_fits version names (record { line = line; body = closed_at end done }) ≡ true)
      × (lines ++ (end, forms.End) ∷ []
      ≡ thread_lines names name (record { line = line; body = closed_at end done }))
  close_thread line done name lines n end h l few =
      let block : Open = record { opening = Thread line; done = done } in
      let p = and_parts (block_fits 32 block) true h.fits in
      let q = and_parts (line_fits line) (list_all (statement_fits version names 32) done) p.0 in
      let small : counts_of (closed_at end done) ≤ 4096 =
      omega (arith, closed_weight end done, h.light, few) in (
        rw (q.0, closed_fits 32 end done q.1 l, le-leb (counts_of (closed_at end done)) 4096 small)
            refl,
        ap (λ (ls : List Line). ls ++ (end, forms.End) ∷ []) h.lines_are
            ∙ ap (λ (ls : List Line). (line, forms.Thread name) ∷ ls)
            (sym (closed_lines forms.End end done)),
      )
