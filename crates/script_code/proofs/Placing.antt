-- The code of a sound script names only places and registers that there are, and begins only where
-- a thread is held.
use Rattle.std.proofs.Common.{◌≡◌, ℕ, ◌+◌, ◌-◌, ◌<◌, ◌≤◌, ◌&&◌, true, List, [], ◌∷◌}
use Rattle.std.proofs.Common.{◌++◌, length, Some, refl, subst, arith, length-append}
use Rattle.std.specs.Prelude.{nat_lt, nat_le, slice_get}
use Rattle.std.specs.List.{list_all}
use Rattle.std.proofs.lemmas.Bool.{lt-ltb, and_from}
use Rattle.pct_ask.specs.NameLists.{NameLists}
use Rattle.script_tree.specs.Trees.{Expression, Statement, Statements, Closed, Then, Read, Write}
use Rattle.script_tree.specs.Trees.{Add, Cas, TryLock, TryDown, Arrive, Assert, Set, If, IfElse}
use Rattle.script_tree.specs.Trees.{While, TryRdLock, TryWrLock, has_no_block, end_line}
use Rattle.script_tree.specs.Fitting.{count_of, counts_of, line_fits, reg_fits, place_fits}
use Rattle.script_tree.specs.Fitting.{expression_fits, statement_fits, statements_fit}
use Rattle.script_tree.proofs.laws.Conjunctions.{left_true, right_true, second_of_3, all-append}
use Rattle.script_code.specs.Operations.{Operation, Do, Test, End}
use Rattle.script_code.specs.Placed.{is_lone, is_placed, last_place}
use Rattle.script_code.specs.CodeOf.{goes_on}
use Rattle.script_code.specs.Layout.{entry, code_of, codes_of, body_code}
use Rattle.script_code.proofs.Laid.{length-codes_of, has_all, has_back}

pub lt : (a b : ℕ) → a < b → nat_lt a b ≡ true
lt a b h = lt-ltb a b h

-- each statement counts
pub count_some : (s : Statement) → 1 ≤ count_of s
count_some (If line test first) = omega arith
count_some (IfElse line test first otherwise) = omega arith
count_some (While line test body) = omega arith
count_some s = omega arith

entry_below : (n at next : ℕ) (ss : Statements) → at + counts_of ss ≤ n → next < n
    → entry at next ss < n
entry_below n at next (Closed line) a b = b
entry_below n at next (Then s rest) a b = omega (arith, count_some s)

module _ (version : ℕ) (names : NameLists) where
  lone : (room : ℕ) (s : Statement) → has_no_block s ≡ true
      → statement_fits version names room s ≡ true → is_lone s ≡ true
  lone room (Read line reg var) e h =
      second_of_3 (line_fits line) (reg_fits reg) (place_fits names.vars var) h
  lone room (Write line var value) e h =
      right_true (line_fits line && place_fits names.vars var) (expression_fits value) h
  lone room (Add line reg var value) e h =
      let front = line_fits line && reg_fits reg && place_fits names.vars var in
      and_from (reg_fits reg) (expression_fits value)
      (second_of_3 (line_fits line) (reg_fits reg) (place_fits names.vars var)
      (left_true front (expression_fits value) h))
      (right_true front (expression_fits value) h)
  lone room (Cas line reg var old new) e h =
      let front = line_fits line && reg_fits reg && place_fits names.vars var in
      let most = front && expression_fits old in
      let rest = left_true most (expression_fits new) h in
      and_from (reg_fits reg && expression_fits old) (expression_fits new)
      (and_from (reg_fits reg) (expression_fits old)
      (second_of_3 (line_fits line) (reg_fits reg) (place_fits names.vars var)
      (left_true front (expression_fits old) rest))
      (right_true front (expression_fits old) rest))
      (right_true most (expression_fits new) h)
  lone room (TryLock line reg mutex) e h =
      second_of_3 (line_fits line) (reg_fits reg) (place_fits names.mutexes mutex) h
  lone room (TryDown line reg sem) e h =
      second_of_3 (line_fits line) (reg_fits reg) (place_fits names.sems sem) h
  lone room (Arrive line reg barrier) e h =
      second_of_3 (line_fits line) (reg_fits reg) (place_fits names.barriers barrier) h
  lone room (Assert line test) e h = right_true (line_fits line) (expression_fits test) h
  lone room (Set line reg value) e h =
      and_from (reg_fits reg) (expression_fits value)
      (second_of_3 (line_fits line) (reg_fits reg) (expression_fits value) h)
      (right_true (line_fits line && reg_fits reg) (expression_fits value) h)
  lone room (If line test first) e h = e
  lone room (IfElse line test first otherwise) e h = e
  lone room (While line test body) e h = e
  lone room (TryRdLock line reg rwlock) e h =
      second_of_3 (line_fits line && nat_le 3 version) (reg_fits reg)
      (place_fits names.rwlocks rwlock) h
  lone room (TryWrLock line reg rwlock) e h =
      second_of_3 (line_fits line && nat_le 3 version) (reg_fits reg)
      (place_fits names.rwlocks rwlock) h
  lone room s e h = refl

  -- each operation of a statement names only places below n
  module _ (n : ℕ) where
    tests : (test : Expression) (a b : ℕ) → expression_fits test ≡ true → a < n → b < n
        → (expression_fits test && nat_lt a n && nat_lt b n) ≡ true
    tests test a b e p q =
        and_from (expression_fits test && nat_lt a n) (nat_lt b n)
        (and_from (expression_fits test) (nat_lt a n) e (lt a n p)) (lt b n q)

    does : (room : ℕ) (s : Statement) (next : ℕ) → has_no_block s ≡ true
        → statement_fits version names room s ≡ true → next < n
        → list_all (is_placed n) (Do s next ∷ []) ≡ true
    does room s next e h p =
        and_from (is_lone s && nat_lt next n) true
        (and_from (is_lone s) (nat_lt next n) (lone room s e h) (lt next n p)) refl

    mutual
      pub placed_code : (s : Statement) (room at next : ℕ)
          → statement_fits version names room s ≡ true → at + count_of s ≤ n → next < n
          → list_all (is_placed n) (code_of at next s) ≡ true
      placed_code (If line test first) room at next h a b =
          let front = line_fits line && expression_fits test && nat_lt 0 room in
          let inner = right_true front (statements_fit version names (room - 1) first) h in
          let value = second_of_3 (line_fits line) (expression_fits test) (nat_lt 0 room)
          (left_true front (statements_fit version names (room - 1) first) h) in
          and_from (is_placed n (Test line test (entry (at + 1) next first) next))
          (list_all (is_placed n) (codes_of (at + 1) next first))
          (tests test (entry (at + 1) next first) next value
          (entry_below n (at + 1) next first (omega arith) b) b)
          (placed_codes first (room - 1) (at + 1) next inner (omega arith) b)
      placed_code (IfElse line test first otherwise) room at next h a b =
          let front = line_fits line && expression_fits test && nat_lt 0 room in
          let most = front && statements_fit version names (room - 1) first in
          let outer = left_true most (statements_fit version names (room - 1) otherwise) h in
          let value = second_of_3 (line_fits line) (expression_fits test) (nat_lt 0 room)
          (left_true front (statements_fit version names (room - 1) first) outer) in
          let mid = at + 1 + counts_of first in
          and_from (is_placed n (Test line test (entry (at + 1) next first)
          (entry mid next otherwise))) (list_all (is_placed n)
          (codes_of (at + 1) next first ++ codes_of mid next otherwise))
          (tests test (entry (at + 1) next first) (entry mid next otherwise) value
          (entry_below n (at + 1) next first (omega arith) b)
          (entry_below n mid next otherwise (omega arith) b))
          (all-append (is_placed n) (codes_of (at + 1) next first) (codes_of mid next otherwise)
          (placed_codes first (room - 1) (at + 1) next
          (right_true front (statements_fit version names (room - 1) first) outer) (omega arith)
          b)
          (placed_codes otherwise (room - 1) mid next
          (right_true most (statements_fit version names (room - 1) otherwise) h) (omega arith)
          b))
      placed_code (While line test body) room at next h a b =
          let front = line_fits line && expression_fits test && nat_lt 0 room in
          let inner = right_true front (statements_fit version names (room - 1) body) h in
          let value = second_of_3 (line_fits line) (expression_fits test) (nat_lt 0 room)
          (left_true front (statements_fit version names (room - 1) body) h) in
          and_from (is_placed n (Test line test (entry (at + 1) at body) next))
          (list_all (is_placed n) (codes_of (at + 1) at body))
          (tests test (entry (at + 1) at body) next value
          (entry_below n (at + 1) at body (omega arith) (omega arith)) b)
          (placed_codes body (room - 1) (at + 1) at inner (omega arith) (omega arith))
      placed_code s room at next h a b = does room s next refl h b

      pub placed_codes : (ss : Statements) (room at next : ℕ)
          → statements_fit version names room ss ≡ true → at + counts_of ss ≤ n → next < n
          → list_all (is_placed n) (codes_of at next ss) ≡ true
      placed_codes (Closed line) room at next h a b = refl
      placed_codes (Then s rest) room at next h a b =
          let mid = entry (at + count_of s) next rest in
          all-append (is_placed n) (code_of at mid s) (codes_of (at + count_of s) next rest)
          (placed_code s room at mid (left_true (statement_fits version names room s)
          (statements_fit version names room rest) h) (omega arith)
          (entry_below n (at + count_of s) next rest (omega arith) b))
          (placed_codes rest room (at + count_of s) next
          (right_true (statement_fits version names room s)
          (statements_fit version names room rest) h) (omega arith) b)

-- ---- beginnings

mutual
  code_goes_on : (s : Statement) (at next : ℕ) → list_all goes_on (code_of at next s) ≡ true
  code_goes_on (If line test first) at next = codes_go_on first (at + 1) next
  code_goes_on (IfElse line test first otherwise) at next =
      all-append goes_on (codes_of (at + 1) next first)
      (codes_of (at + 1 + counts_of first) next otherwise) (codes_go_on first (at + 1) next)
      (codes_go_on otherwise (at + 1 + counts_of first) next)
  code_goes_on (While line test body) at next = codes_go_on body (at + 1) at
  code_goes_on s at next = refl

  codes_go_on : (ss : Statements) (at next : ℕ) → list_all goes_on (codes_of at next ss) ≡ true
  codes_go_on (Closed line) at next = refl
  codes_go_on (Then s rest) at next =
      all-append goes_on (code_of at (entry (at + count_of s) next rest) s)
      (codes_of (at + count_of s) next rest)
      (code_goes_on s at (entry (at + count_of s) next rest))
      (codes_go_on rest (at + count_of s) next)

pub body_goes_on : (at : ℕ) (body : Statements) → list_all goes_on (body_code at body) ≡ true
body_goes_on at body =
    all-append goes_on (codes_of at (at + counts_of body) body) (End (end_line body) ∷ [])
    (codes_go_on body at (at + counts_of body)) refl

-- ---- a thread's list

pub length-body_code : (at : ℕ) (body : Statements)
    → length (body_code at body) ≡ counts_of body + 1
length-body_code at body =
    omega (
      arith,
      length-append (codes_of at (at + counts_of body) body) (End (end_line body) ∷ []),
      length-codes_of body at (at + counts_of body),
    )

-- its end lies behind the operations of its statements
pub end_at : (before : List Operation) (body : Statements)
    → slice_get (before ++ body_code (length before) body) (length before + counts_of body)
    ≡ Some (End (end_line body))
end_at before body =
    let at = length before in
    let a = codes_of at (at + counts_of body) body in
    let e : at + length a ≡ at + counts_of body =
    omega (arith, length-codes_of body at (at + counts_of body)) in
    (subst (λ k. slice_get (before ++ body_code at body) k ≡ Some (End (end_line body))) e
    (has_back (before ++ body_code at body) at a (End (end_line body) ∷ [])
    (has_all (body_code at body) before)).0)

pub last_is_end : (before : List Operation) (body : Statements)
    → slice_get (before ++ body_code (length before) body)
    (last_place (before ++ body_code (length before) body)) ≡ Some (End (end_line body))
last_is_end before body =
    let at = length before in
    let e : at + counts_of body ≡ last_place (before ++ body_code at body) =
    omega (arith, length-append before (body_code at body), length-body_code at body) in
    subst (λ k. slice_get (before ++ body_code at body) k ≡ Some (End (end_line body))) e
    (end_at before body)
