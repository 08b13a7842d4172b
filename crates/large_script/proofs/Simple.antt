-- The large script fits the limits of scripts.
use Rattle.std.proofs.Common.{◌≡◌, ℕ, zero, suc, ◌+◌, ◌*◌, ◌<◌, ◌≤◌, ◌%◌, true, false, Bool, cond}
use Rattle.std.proofs.Common.{List, [], ◌∷◌, ◌++◌, length, length-append, map, refl, sym, subst}
use Rattle.std.proofs.Common.{arith}
use Rattle.std.specs.Prelude.{ℤ, ◌&&◌, ◌==◌, nat_le}
use Rattle.std.specs.List.{list_all}
use Rattle.std.proofs.lemmas.Bool.{and_parts, and_from, le-leb}
use Rattle.std.proofs.lemmas.Bool.Decides.{nat_tests}
use Rattle.std.proofs.lemmas.List.Elements.{All-nil}
use Rattle.pct_ask.specs.NameLists.{NameLists}
use Rattle.pct_ask.specs.Ranges.{IsSemValue, IsBarrierCount}
use Rattle.script_tree.specs.Trees.{Statement, closed_at}
use Rattle.script_tree.specs.ScriptText.{Thread}
use Rattle.script_tree.specs.ScriptParts.{thread_text, script_of_parts}
use Rattle.script_tree.specs.declared.stmt.ThreadText.{ThreadText}
use Rattle.script_tree.specs.Fitting.{IsScript, statement_fits, statements_fit, thread_fits}
use Rattle.script_tree.specs.Fitting.{count_of, counts_of}
use Rattle.script_tree.proofs.laws.Conjunctions.{all-append}
use Rattle.large_script.specs.Large.{large_names, large_script, piece, pieces, joins_of, sums}
use Rattle.large_script.specs.Large.{last_checks, added_all_test, unset_thread, open_piece}
use Rattle.large_script.specs.Large.{locked_piece, workers}

-- what holds of each of the first eight numbers
pub at_eight : (P : ℕ → Type 0) → P 0 → P 1 → P 2 → P 3 → P 4 → P 5 → P 6 → P 7 → (n : ℕ) → n < 8
    → P n
at_eight P a b c d e f g h zero low = a
at_eight P a b c d e f g h (suc zero) low = b
at_eight P a b c d e f g h (suc (suc zero)) low = c
at_eight P a b c d e f g h (suc (suc (suc zero))) low = d
at_eight P a b c d e f g h (suc (suc (suc (suc zero)))) low = e
at_eight P a b c d e f g h (suc (suc (suc (suc (suc zero))))) low = f
at_eight P a b c d e f g h (suc (suc (suc (suc (suc (suc zero)))))) low = g
at_eight P a b c d e f g h (suc (suc (suc (suc (suc (suc (suc zero))))))) low = h
at_eight P a b c d e f g h (suc (suc (suc (suc (suc (suc (suc (suc n)))))))) low =
    absurd (omega arith)

-- ---- pieces

-- whatever holds of each kind of piece holds of all
module _ (test : Statement → Bool)
    (open_holds : (var : ℕ) → var < 8 → list_all test (open_piece var) ≡ true)
    (locked_holds : (var : ℕ) → var < 8 → list_all test (locked_piece var) ≡ true) where
  by_kind : (free : Bool) (var : ℕ) → var < 8
      → list_all test (cond free (open_piece var) (locked_piece var)) ≡ true
  by_kind true var low = open_holds var low
  by_kind false var low = locked_holds var low

  pub pieces_hold : (thread many : ℕ) → list_all test (pieces thread many) ≡ true
  pieces_hold thread zero = refl
  pieces_hold thread (suc place) =
      all-append test (pieces thread place) (piece thread place) (pieces_hold thread place)
      (by_kind (place % 4 == 0) ((thread + place) % 8) (omega arith))

four_of : (free : Bool) (var : ℕ) → length (cond free (open_piece var) (locked_piece var)) ≡ 4
four_of true var = refl
four_of false var = refl

pub length-pieces : (thread many : ℕ) → length (pieces thread many) ≡ 4 * many
length-pieces thread zero = refl
length-pieces thread (suc place) =
    let four : length (piece thread place) ≡ 4 = four_of (place % 4 == 0) ((thread + place) % 8) in
    omega (
      arith,
      length-append (pieces thread place) (piece thread place),
      length-pieces thread place,
    )

-- ---- a statement that fits, and holds no other

abbrev pub is_simple : Statement → Bool
is_simple s = statement_fits 1 large_names 32 s && (count_of s == 1)

open_simple : (var : ℕ) → var < 8 → list_all is_simple (open_piece var) ≡ true
open_simple =
    at_eight (λ var. list_all is_simple (open_piece var) ≡ true) refl refl refl refl refl refl refl
    refl

locked_simple : (var : ℕ) → var < 8 → list_all is_simple (locked_piece var) ≡ true
locked_simple =
    at_eight (λ var. list_all is_simple (locked_piece var) ≡ true) refl refl refl refl refl refl
    refl refl

fits-closed : (ss : List Statement) → list_all is_simple ss ≡ true
    → statements_fit 1 large_names 32 (closed_at 1 ss) ≡ true
fits-closed [] simple = refl
fits-closed (s ∷ ss) simple =
    let both = and_parts (is_simple s) (list_all is_simple ss) simple in
    let parts = and_parts (statement_fits 1 large_names 32 s) (count_of s == 1) both.0 in
    and_from (statement_fits 1 large_names 32 s) (statements_fit 1 large_names 32 (closed_at 1 ss))
    parts.0 (fits-closed ss both.1)

pub one_of : (n : ℕ) → (n == 1) ≡ true → n ≡ 1
one_of n h = grind (arith, nat_tests)

counts-closed : (ss : List Statement) → list_all is_simple ss ≡ true
    → counts_of (closed_at 1 ss) ≡ length ss
counts-closed [] simple = refl
counts-closed (s ∷ ss) simple =
    let both = and_parts (is_simple s) (list_all is_simple ss) simple in
    let parts = and_parts (statement_fits 1 large_names 32 s) (count_of s == 1) both.0 in
    let one : count_of s ≡ 1 = one_of (count_of s) parts.1 in
    omega (arith, counts-closed ss both.1)

fits-simple : (ss : List Statement) → list_all is_simple ss ≡ true → length ss ≤ 4096
    → thread_fits 1 large_names (unset_thread ss) ≡ true
fits-simple ss simple few =
    let high : counts_of (closed_at 1 ss) ≤ 4096 = omega (arith, counts-closed ss simple) in
    and_from (statements_fit 1 large_names 32 (closed_at 1 ss))
    (nat_le (counts_of (closed_at 1 ss)) 4096) (fits-closed ss simple)
    (le-leb (counts_of (closed_at 1 ss)) 4096 high)

-- ---- the threads

abbrev fits : Thread → Bool
fits = thread_fits 1 large_names

worker_fits : (many thread : ℕ) → many ≤ 100 → fits (unset_thread (pieces thread many)) ≡ true
worker_fits many thread high =
    fits-simple (pieces thread many) (pieces_hold is_simple open_simple locked_simple thread many)
    (omega (arith, length-pieces thread many))

workers_fit : (many threads : ℕ) → many ≤ 100 → list_all fits (workers many threads) ≡ true
workers_fit many zero high = refl
workers_fit many (suc thread) high =
    all-append fits (workers many thread) (unset_thread (pieces thread many) ∷ [])
    (workers_fit many thread high)
    (and_from (fits (unset_thread (pieces thread many))) true (worker_fits many thread high) refl)

whole_simple : (many : ℕ) → list_all is_simple (added_all_test many ∷ []) ≡ true
whole_simple many = rw (le-leb 0 (8 * many) (omega arith)) refl

checks_simple : (many : ℕ) → list_all is_simple (last_checks many) ≡ true
checks_simple many =
    all-append is_simple (joins_of 8 ++ sums 8) (added_all_test many ∷ []) refl (whole_simple many)

checker_fits : (many : ℕ) → fits (unset_thread (last_checks many)) ≡ true
checker_fits many =
    fits-simple (last_checks many) (checks_simple many)
    (omega (arith, length-append (joins_of 8 ++ sums 8) (added_all_test many ∷ [])))

threads_fit : (many : ℕ) → many ≤ 100 → list_all fits (large_script many).threads ≡ true
threads_fit many high =
    all-append fits (workers many 8) (unset_thread (last_checks many) ∷ [])
    (workers_fit many 8 high)
    (and_from (fits (unset_thread (last_checks many))) true (checker_fits many) refl)

pub is_script : (many : ℕ) → many ≤ 100 → IsScript (large_script many)
is_script many high = record {
  first_version = omega arith;
  last_version = omega arith;
  lawful_names = refl;
  same_vars = refl;
  same_sems = refl;
  same_barriers = refl;
  same_threads = refl;
  some_thread = omega arith;
  few_threads = omega arith;
  known_rwlocks = refl;
  sem_values = All-nil IsSemValue;
  barrier_counts = All-nil IsBarrierCount;
  threads_fit = threads_fit many high;
}

-- a script of the code that has these parts
pub is_script_of : (many : ℕ) → many ≤ 100
    → (names : NameLists) (vars sems barriers : List ℤ) (threads : List ThreadText)
    → names ≡ large_names → vars ≡ (large_script many).vars → sems ≡ [] → barriers ≡ []
    → map thread_text threads ≡ (large_script many).threads
    → IsScript (script_of_parts 1 names vars sems barriers threads)
is_script_of many high names vars sems barriers threads e v s b t =
    let same : script_of_parts 1 names vars sems barriers threads ≡ large_script many =
    λ i. record {
      version = 1;
      names = e i;
      vars = v i;
      sems = s i;
      barriers = b i;
      threads = t i;
    } in
    subst IsScript (sym same) (is_script many high)
