-- The lines of a renumbered script are those of the script, with their new numbers; and it fits as
-- the script does.
use Rattle.std.proofs.Common.{◌≡◌, ℕ, ◌+◌, ◌-◌, ◌≤◌, Bool, true, false, List, [], ◌∷◌, ◌++◌, length}
use Rattle.std.proofs.Common.{length-append, refl, sym, ap, ◌∙◌, arith}
use Rattle.std.specs.Prelude.{◌&&◌, nat_le, nat_lt}
use Rattle.std.specs.List.{list_all}
use Rattle.std.proofs.lemmas.List.{map-append}
use Rattle.std.proofs.lemmas.Bool.{and_parts, and_from, le-leb}
use Rattle.pct_ask.specs.NameLists.{NameLists}
use Rattle.script_tree.specs.Trees.{Statement, Statements, Closed, Then}
use Rattle.script_tree.specs.Trees as trees
use Rattle.script_tree.specs.ScriptText.{Thread}
use Rattle.script_tree.specs.Forms.{MeantForm}
use Rattle.script_tree.specs.Forms as forms
use Rattle.script_tree.specs.Fitting.{line_fits, reg_fits, place_fits, expression_fits, count_of}
use Rattle.script_tree.specs.Fitting.{counts_of, statement_fits, statements_fit, thread_fits}
use Rattle.script_tree.specs.Grammar.{Line, statement_lines, block_lines, thread_lines}
use Rattle.script_tree.specs.Grammar.{all_thread_lines}
use Rattle.script_tree.specs.Layout.{meanings}
use Rattle.script_tree.specs.Renumbering.{line_count, lines_count, renumbered_statement}
use Rattle.script_tree.specs.Renumbering.{renumbered_block, renumbered_threads}
use Rattle.script_tree.proofs.PrintedLines.{numbered, numbered-append}

meanings-append : (a b : List Line) → meanings (a ++ b) ≡ meanings a ++ meanings b
meanings-append a b = map-append (λ (line : Line). line.1) a b

length-meanings : (lines : List Line) → length (meanings lines) ≡ length lines
length-meanings [] = refl
length-meanings (line ∷ lines) = omega (arith, length-meanings lines)

-- ---- how many lines there are

mutual
  statement_length : (names : NameLists) (s : Statement)
      → length (statement_lines names s) ≡ line_count s
  statement_length names (trees.If line test first) =
      omega (arith, block_length names forms.End first)
  statement_length names (trees.IfElse line test first otherwise) =
      omega (
        arith,
        block_length names forms.Else first,
        block_length names forms.End otherwise,
        length-append (block_lines names forms.Else first)
            (block_lines names forms.End otherwise),
      )
  statement_length names (trees.While line test body) =
      omega (arith, block_length names forms.End body)
  statement_length names s = refl

  pub block_length : (names : NameLists) (closing : MeantForm) (body : Statements)
      → length (block_lines names closing body) ≡ lines_count body
  block_length names closing (Closed line) = refl
  block_length names closing (Then s rest) =
      omega (
        arith,
        statement_length names s,
        block_length names closing rest,
        length-append (statement_lines names s) (block_lines names closing rest),
      )

-- ---- their numbers

-- lines one after another
joined : (n k : ℕ) (a b : List Line) → length a ≡ k
    → numbered n (meanings (a ++ b)) ≡ numbered n (meanings a) ++ numbered (n + k) (meanings b)
joined n k a b e =
    ap (numbered n) (meanings-append a b) ∙ numbered-append n (meanings a) (meanings b)
    ∙ ap (λ j. numbered n (meanings a) ++ numbered (n + j) (meanings b)) (length-meanings a ∙ e)

mutual
  statement_numbered : (names : NameLists) (n : ℕ) (s : Statement)
      → statement_lines names (renumbered_statement n s)
      ≡ numbered n (meanings (statement_lines names s))
  statement_numbered names n (trees.If line test first) =
      ap (λ lines. (n, forms.If test) ∷ lines) (block_numbered names forms.End (n + 1) first)
  statement_numbered names n (trees.IfElse line test first otherwise) =
      let A : List Line = block_lines names forms.Else first in
      let B : List Line = block_lines names forms.End otherwise in
      ap (λ lines. (n, forms.If test) ∷ lines)
      (ap (λ lines. lines ++ block_lines names forms.End
      (renumbered_block (n + 1 + lines_count first) otherwise))
      (block_numbered names forms.Else (n + 1) first)
      ∙ ap (λ lines. numbered (n + 1) (meanings A) ++ lines)
      (block_numbered names forms.End (n + 1 + lines_count first) otherwise)
      ∙ sym (joined (n + 1) (lines_count first) A B (block_length names forms.Else first)))
  statement_numbered names n (trees.While line test body) =
      ap (λ lines. (n, forms.While test) ∷ lines) (block_numbered names forms.End (n + 1) body)
  statement_numbered names n s = refl

  pub block_numbered : (names : NameLists) (closing : MeantForm) (n : ℕ) (body : Statements)
      → block_lines names closing (renumbered_block n body)
      ≡ numbered n (meanings (block_lines names closing body))
  block_numbered names closing n (Closed line) = refl
  block_numbered names closing n (Then s rest) =
      let A : List Line = statement_lines names s in
      let B : List Line = block_lines names closing rest in
      ap (λ lines. lines ++ block_lines names closing (renumbered_block (n + line_count s) rest))
      (statement_numbered names n s)
      ∙ ap (λ lines. numbered n (meanings A) ++ lines)
      (block_numbered names closing (n + line_count s) rest)
      ∙ sym (joined n (line_count s) A B (statement_length names s))

thread_length : (names : NameLists) (name : List ℕ) (t : Thread)
    → length (thread_lines names name t) ≡ 1 + lines_count t.body
thread_length names name t = omega (arith, block_length names forms.End t.body)

pub threads_numbered : (names : NameLists) (n : ℕ) (ns : List (List ℕ)) (ts : List Thread)
    → all_thread_lines names ns (renumbered_threads n ts)
    ≡ numbered n (meanings (all_thread_lines names ns ts))
threads_numbered names n [] ts = refl
threads_numbered names n (name ∷ ns) [] = refl
threads_numbered names n (name ∷ ns) (t ∷ ts) =
    let A : List Line = thread_lines names name t in
    let B : List Line = all_thread_lines names ns ts in
    let next : n + 1 + lines_count t.body ≡ n + (1 + lines_count t.body) = omega arith in
    ap (λ lines. ((n, forms.Thread name) ∷ lines)
    ++ all_thread_lines names ns (renumbered_threads (n + 1 + lines_count t.body) ts))
    (block_numbered names forms.End (n + 1) t.body)
    ∙ ap (λ lines. numbered n (meanings A) ++ lines)
    (threads_numbered names (n + 1 + lines_count t.body) ns ts)
    ∙ ap (λ k. numbered n (meanings A) ++ numbered k (meanings B)) next
    ∙ sym (joined n (1 + lines_count t.body) A B (thread_length names name t))

pub renumbered_length : (n : ℕ) (ts : List Thread) → length (renumbered_threads n ts) ≡ length ts
renumbered_length n [] = refl
renumbered_length n (t ∷ ts) = omega (arith, renumbered_length (n + 1 + lines_count t.body) ts)

-- ---- how many statements there are

mutual
  statement_count : (n : ℕ) (s : Statement) → count_of (renumbered_statement n s) ≡ count_of s
  statement_count n (trees.If line test first) = ap (λ k. 1 + k) (block_count (n + 1) first)
  statement_count n (trees.IfElse line test first otherwise) =
      omega (arith, block_count (n + 1) first, block_count (n + 1 + lines_count first) otherwise)
  statement_count n (trees.While line test body) = ap (λ k. 1 + k) (block_count (n + 1) body)
  statement_count n s = refl

  block_count : (n : ℕ) (body : Statements) → counts_of (renumbered_block n body) ≡ counts_of body
  block_count n (Closed line) = refl
  block_count n (Then s rest) =
      omega (arith, statement_count n s, block_count (n + line_count s) rest)

-- ---- what they name

swap_2 : (a b new : Bool) → (a && b) ≡ true → new ≡ true → (new && b) ≡ true
swap_2 true b new h e = rw e h
swap_2 false b new h e = absurd (cc)

swap_3 : (a b c new : Bool) → (a && b && c) ≡ true → new ≡ true → (new && b && c) ≡ true
swap_3 true b c new h e = rw e h
swap_3 false b c new h e = absurd cc

swap_4 : (a b c d new : Bool) → (a && b && c && d) ≡ true → new ≡ true → (new && b && c && d) ≡ true
swap_4 true b c d new h e = rw e h
swap_4 false b c d new h e = absurd cc

swap_5 : (a b c d f new : Bool) → (a && b && c && d && f) ≡ true → new ≡ true
    → (new && b && c && d && f) ≡ true
swap_5 true b c d f new h e = rw e h
swap_5 false b c d f new h e = absurd cc

line_refits : (n : ℕ) → 1 ≤ n → n ≤ 4096 → line_fits n ≡ true
line_refits n low high = and_from (nat_le 1 n) (nat_le n 4096) (le-leb 1 n low) (le-leb n 4096 high)

module _ (version : ℕ) (names : NameLists) where
  mutual
    statement_refits : (room n : ℕ) (s : Statement) → statement_fits version names room s ≡ true
        → 1 ≤ n → n + line_count s ≤ 4097
        → statement_fits version names room (renumbered_statement n s) ≡ true
    statement_refits room n (trees.Read line reg var) fits low high =
        swap_3 (line_fits line) (reg_fits reg) (place_fits names.vars var) (line_fits n) fits
        (line_refits n low (omega arith))
    statement_refits room n (trees.Write line var value) fits low high =
        swap_3 (line_fits line) (place_fits names.vars var) (expression_fits value) (line_fits n)
        fits (line_refits n low (omega arith))
    statement_refits room n (trees.Add line reg var value) fits low high =
        swap_4 (line_fits line) (reg_fits reg) (place_fits names.vars var) (expression_fits value)
        (line_fits n) fits (line_refits n low (omega arith))
    statement_refits room n (trees.Cas line reg var old new) fits low high =
        swap_5 (line_fits line) (reg_fits reg) (place_fits names.vars var) (expression_fits old)
        (expression_fits new) (line_fits n) fits (line_refits n low (omega arith))
    statement_refits room n (trees.Lock line mutex) fits low high =
        swap_2 (line_fits line) (place_fits names.mutexes mutex) (line_fits n) fits
        (line_refits n low (omega arith))
    statement_refits room n (trees.TryLock line reg mutex) fits low high =
        swap_3 (line_fits line) (reg_fits reg) (place_fits names.mutexes mutex) (line_fits n) fits
        (line_refits n low (omega arith))
    statement_refits room n (trees.Unlock line mutex) fits low high =
        swap_2 (line_fits line) (place_fits names.mutexes mutex) (line_fits n) fits
        (line_refits n low (omega arith))
    statement_refits room n (trees.Wait line cond mutex) fits low high =
        swap_3 (line_fits line) (place_fits names.conds cond) (place_fits names.mutexes mutex)
        (line_fits n) fits (line_refits n low (omega arith))
    statement_refits room n (trees.Signal line cond) fits low high =
        swap_2 (line_fits line) (place_fits names.conds cond) (line_fits n) fits
        (line_refits n low (omega arith))
    statement_refits room n (trees.Broadcast line cond) fits low high =
        swap_2 (line_fits line) (place_fits names.conds cond) (line_fits n) fits
        (line_refits n low (omega arith))
    statement_refits room n (trees.Down line sem) fits low high =
        swap_2 (line_fits line) (place_fits names.sems sem) (line_fits n) fits
        (line_refits n low (omega arith))
    statement_refits room n (trees.TryDown line reg sem) fits low high =
        swap_3 (line_fits line) (reg_fits reg) (place_fits names.sems sem) (line_fits n) fits
        (line_refits n low (omega arith))
    statement_refits room n (trees.Up line sem) fits low high =
        swap_2 (line_fits line) (place_fits names.sems sem) (line_fits n) fits
        (line_refits n low (omega arith))
    statement_refits room n (trees.Arrive line reg barrier) fits low high =
        swap_3 (line_fits line) (reg_fits reg) (place_fits names.barriers barrier) (line_fits n)
        fits (line_refits n low (omega arith))
    statement_refits room n (trees.Join line thread) fits low high =
        swap_2 (line_fits line) (place_fits names.threads thread) (line_fits n) fits
        (line_refits n low (omega arith))
    statement_refits room n (trees.Yield line) fits low high = line_refits n low (omega arith)
    statement_refits room n (trees.Assert line test) fits low high =
        swap_2 (line_fits line) (expression_fits test) (line_fits n) fits
        (line_refits n low (omega arith))
    statement_refits room n (trees.Set line reg value) fits low high =
        swap_3 (line_fits line) (reg_fits reg) (expression_fits value) (line_fits n) fits
        (line_refits n low (omega arith))
    statement_refits room n (trees.Start line thread) fits low high =
        swap_3 (line_fits line) (nat_le 2 version) (place_fits names.threads thread) (line_fits n)
        fits (line_refits n low (omega arith))
    statement_refits room n (trees.RdLock line rwlock) fits low high =
        swap_3 (line_fits line) (nat_le 3 version) (place_fits names.rwlocks rwlock) (line_fits n)
        fits (line_refits n low (omega arith))
    statement_refits room n (trees.WrLock line rwlock) fits low high =
        swap_3 (line_fits line) (nat_le 3 version) (place_fits names.rwlocks rwlock) (line_fits n)
        fits (line_refits n low (omega arith))
    statement_refits room n (trees.TryRdLock line reg rwlock) fits low high =
        swap_4 (line_fits line) (nat_le 3 version) (reg_fits reg) (place_fits names.rwlocks rwlock)
        (line_fits n) fits (line_refits n low (omega arith))
    statement_refits room n (trees.TryWrLock line reg rwlock) fits low high =
        swap_4 (line_fits line) (nat_le 3 version) (reg_fits reg) (place_fits names.rwlocks rwlock)
        (line_fits n) fits (line_refits n low (omega arith))
    statement_refits room n (trees.RwUnlock line rwlock) fits low high =
        swap_3 (line_fits line) (nat_le 3 version) (place_fits names.rwlocks rwlock) (line_fits n)
        fits (line_refits n low (omega arith))
    statement_refits room n (trees.If line test first) fits low high =
        let p3 = and_parts (line_fits line && expression_fits test && nat_lt 0 room)
        (statements_fit version names (room - 1) first) fits in
        let p2 = and_parts (line_fits line && expression_fits test) (nat_lt 0 room) p3.0 in
        let p1 = and_parts (line_fits line) (expression_fits test) p2.0 in
        and_from (line_fits n && expression_fits test && nat_lt 0 room)
        (statements_fit version names (room - 1) (renumbered_block (n + 1) first))
        (and_from (line_fits n && expression_fits test) (nat_lt 0 room)
        (and_from (line_fits n) (expression_fits test) (line_refits n low (omega arith)) p1.1)
        p2.1) (block_refits (room - 1) (n + 1) first p3.1 (omega arith) (omega arith))
    statement_refits room n (trees.While line test body) fits low high =
        let p3 = and_parts (line_fits line && expression_fits test && nat_lt 0 room)
        (statements_fit version names (room - 1) body) fits in
        let p2 = and_parts (line_fits line && expression_fits test) (nat_lt 0 room) p3.0 in
        let p1 = and_parts (line_fits line) (expression_fits test) p2.0 in
        and_from (line_fits n && expression_fits test && nat_lt 0 room)
        (statements_fit version names (room - 1) (renumbered_block (n + 1) body))
        (and_from (line_fits n && expression_fits test) (nat_lt 0 room)
        (and_from (line_fits n) (expression_fits test) (line_refits n low (omega arith)) p1.1)
        p2.1) (block_refits (room - 1) (n + 1) body p3.1 (omega arith) (omega arith))
    statement_refits room n (trees.IfElse line test first otherwise) fits low high =
        let p4 = and_parts (line_fits line && expression_fits test && nat_lt 0 room
        && statements_fit version names (room - 1) first)
        (statements_fit version names (room - 1) otherwise) fits in
        let p3 = and_parts (line_fits line && expression_fits test && nat_lt 0 room)
        (statements_fit version names (room - 1) first) p4.0 in
        let p2 = and_parts (line_fits line && expression_fits test) (nat_lt 0 room) p3.0 in
        let p1 = and_parts (line_fits line) (expression_fits test) p2.0 in
        and_from (line_fits n && expression_fits test && nat_lt 0 room
        && statements_fit version names (room - 1) (renumbered_block (n + 1) first))
        (statements_fit version names (room - 1)
        (renumbered_block (n + 1 + lines_count first) otherwise))
        (and_from (line_fits n && expression_fits test && nat_lt 0 room)
        (statements_fit version names (room - 1) (renumbered_block (n + 1) first))
        (and_from (line_fits n && expression_fits test) (nat_lt 0 room)
        (and_from (line_fits n) (expression_fits test) (line_refits n low (omega arith)) p1.1)
        p2.1) (block_refits (room - 1) (n + 1) first p3.1 (omega arith) (omega arith)))
        (block_refits (room - 1) (n + 1 + lines_count first) otherwise p4.1 (omega arith)
        (omega arith))

    block_refits : (room n : ℕ) (body : Statements) → statements_fit version names room body ≡ true
        → 1 ≤ n → n + lines_count body ≤ 4097
        → statements_fit version names room (renumbered_block n body) ≡ true
    block_refits room n (Closed line) fits low high = line_refits n low (omega arith)
    block_refits room n (Then s rest) fits low high =
        let both = and_parts (statement_fits version names room s)
        (statements_fit version names room rest) fits in
        and_from (statement_fits version names room (renumbered_statement n s))
        (statements_fit version names room (renumbered_block (n + line_count s) rest))
        (statement_refits room n s both.0 low (omega arith))
        (block_refits room (n + line_count s) rest both.1 (omega arith) (omega arith))

  thread_refits : (n : ℕ) (t : Thread) → thread_fits version names t ≡ true → 1 ≤ n
      → n + 1 + lines_count t.body ≤ 4097
      → thread_fits version names (record { line = n; body = renumbered_block (n + 1) t.body })
      ≡ true
  thread_refits n t fits low high =
      let p2 = and_parts (line_fits t.line && statements_fit version names 32 t.body)
      (nat_le (counts_of t.body) 4096) fits in
      let p1 = and_parts (line_fits t.line) (statements_fit version names 32 t.body) p2.0 in
      let body : Statements = renumbered_block (n + 1) t.body in
      and_from (line_fits n && statements_fit version names 32 body) (nat_le (counts_of body) 4096)
      (and_from (line_fits n) (statements_fit version names 32 body)
      (line_refits n low (omega arith))
      (block_refits 32 (n + 1) t.body p1.1 (omega arith) (omega arith)))
      (ap (λ k. nat_le k 4096) (block_count (n + 1) t.body) ∙ p2.1)

  pub threads_refit : (n : ℕ) (ns : List (List ℕ)) (ts : List Thread) → length ts ≡ length ns
      → list_all (thread_fits version names) ts ≡ true → 1 ≤ n
      → n + length (all_thread_lines names ns ts) ≤ 4097
      → list_all (thread_fits version names) (renumbered_threads n ts) ≡ true
  threads_refit n ns [] same fits low high = refl
  threads_refit n [] (t ∷ ts) same fits low high = absurd (omega arith)
  threads_refit n (name ∷ ns) (t ∷ ts) same fits low high =
      let both = and_parts (thread_fits version names t) (list_all (thread_fits version names) ts)
      fits in
      let long : length (all_thread_lines names (name ∷ ns) (t ∷ ts))
      ≡ length (thread_lines names name t) + length (all_thread_lines names ns ts) =
      length-append (thread_lines names name t) (all_thread_lines names ns ts) in
      let one : length (thread_lines names name t) ≡ 1 + lines_count t.body =
      thread_length names name t in
      and_from (thread_fits version names
      (record { line = n; body = renumbered_block (n + 1) t.body }))
      (list_all (thread_fits version names)
      (renumbered_threads (n + 1 + lines_count t.body) ts))
      (thread_refits n t both.0 low (omega arith))
      (threads_refit (n + 1 + lines_count t.body) ns ts (omega arith) both.1 (omega arith)
      (omega arith))
