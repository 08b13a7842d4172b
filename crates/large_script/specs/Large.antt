-- The large script of so many pieces a thread: eight threads that add one to eight variables, and a
-- last one that adds the variables up (this project).
use Rattle.std.specs.Prelude.{ℕ, zero, suc, pos, ◌+◌, ◌*◌, ◌%◌, ◌==◌, if◌then◌else◌, List, [], ◌∷◌}
use Rattle.std.specs.Prelude.{◌++◌, ◌&&◌, not, nat_lt, Bool, true, length, codes}
use Rattle.pct_ask.specs.Words.{is_name, is_among}
use Rattle.pct_ask.specs.NameLists.{NameLists, no_names, list_of, with_name, all_names}
use Rattle.pct_ask.specs.declared.names.NameKind.{NameKind}
use Rattle.script_tree.specs.declared.expr.Op.TheVariants as ops
use Rattle.script_tree.specs.Trees.{Expression, Number, Reg, Two, Statement, closed_at, Read, Write}
use Rattle.script_tree.specs.Trees.{Lock, Unlock, Join, Yield, Assert, Set}
use Rattle.script_tree.specs.ScriptText.{Thread, ScriptText}
use Rattle.pct_ask.specs.declared.limits.TheConstants.{MAX_OBJECTS}

-- the eight threads that add
abbrev pub worker_names : List (List ℕ)
worker_names =
    codes "T0" ∷ codes "T1" ∷ codes "T2" ∷ codes "T3" ∷ codes "T4" ∷ codes "T5" ∷ codes "T6"
    ∷ codes "T7" ∷ []

-- the eight variables that they add to
abbrev pub var_names : List (List ℕ)
var_names =
    codes "v0" ∷ codes "v1" ∷ codes "v2" ∷ codes "v3" ∷ codes "v4" ∷ codes "v5" ∷ codes "v6"
    ∷ codes "v7" ∷ []

-- the mutexes, one for each variable
abbrev pub mutex_names : List (List ℕ)
mutex_names =
    codes "m0" ∷ codes "m1" ∷ codes "m2" ∷ codes "m3" ∷ codes "m4" ∷ codes "m5" ∷ codes "m6"
    ∷ codes "m7" ∷ []

-- the names of the script: its last thread is `Z`
abbrev pub large_names : NameLists
large_names = record no_names {
  threads = worker_names ++ codes "Z" ∷ [];
  vars = var_names;
  mutexes = mutex_names;
}

-- these names of a kind behind those that there are
abbrev pub with_names : NameKind → List (List ℕ) → NameLists → NameLists
with_names kind [] lists = lists
with_names kind (name ∷ names) lists = with_names kind names (with_name kind name lists)

-- each of these names may be added, one after another: it is lawful and new, and has room
abbrev pub may_add : NameKind → List (List ℕ) → NameLists → Bool
may_add kind [] lists = true
may_add kind (name ∷ names) lists =
    is_name 1 name
    && not (is_among name (all_names lists))
    && nat_lt (length (list_of kind lists)) MAX_OBJECTS
    && may_add kind names (with_name kind name lists)

-- The script is made to be printed. Its statements have their lines in the print, and until then
-- this one.
abbrev pub unset_line : ℕ
unset_line = 1

-- the sum of two registers, or of a register and a number
abbrev pub plus : Expression → Expression → Expression
plus left right = Two ops.Plus left right

-- adding one to a variable by way of register 0
abbrev pub add_one : ℕ → List Statement
add_one var = Read unset_line 0 var ∷ Write unset_line var (plus (Reg 0) (Number (pos 1))) ∷ []

-- a piece that adds one without a mutex, between two yields
abbrev pub open_piece : ℕ → List Statement
open_piece var = Yield unset_line ∷ add_one var ++ Yield unset_line ∷ []

-- a piece that adds one under the mutex of the variable's number
abbrev pub locked_piece : ℕ → List Statement
locked_piece var = Lock unset_line var ∷ add_one var ++ Unlock unset_line var ∷ []

-- The piece of a place in a thread's text, from 0, is on the variable of the sum of both numbers
-- modulo eight. Every fourth one, from the first on, takes no mutex.
abbrev pub piece : ℕ → ℕ → List Statement
piece thread place =
    if place % 4 == 0 then open_piece ((thread + place) % 8)
    else locked_piece ((thread + place) % 8)

-- a thread's first pieces
abbrev pub pieces : ℕ → ℕ → List Statement
pieces thread zero = []
pieces thread (suc place) = pieces thread place ++ piece thread place

-- joins of the first threads
abbrev pub joins_of : ℕ → List Statement
joins_of zero = []
joins_of (suc thread) = joins_of thread ++ Join unset_line thread ∷ []

-- adding the first variables up in register 1
abbrev pub sums : ℕ → List Statement
sums zero = []
sums (suc var) = sums var ++ Read unset_line 0 var ∷ Set unset_line 1 (plus (Reg 1) (Reg 0)) ∷ []

-- all pieces of the eight threads have added one
abbrev pub added_all_test : ℕ → Statement
added_all_test many = Assert unset_line (Two ops.Eq (Reg 1) (Number (pos (8 * many))))

-- a thread of these statements, before it is printed
abbrev pub unset_thread : List Statement → Thread
unset_thread statements = record { line = unset_line; body = closed_at unset_line statements }

-- the first threads
abbrev pub workers : ℕ → ℕ → List Thread
workers many zero = []
workers many (suc thread) = workers many thread ++ unset_thread (pieces thread many) ∷ []

-- what the last thread does
abbrev pub last_checks : ℕ → List Statement
last_checks many = joins_of 8 ++ sums 8 ++ added_all_test many ∷ []

-- the script with so many pieces in each of the eight threads, where every variable begins with 0
abbrev pub large_script : ℕ → ScriptText
large_script many = record {
  version = 1;
  names = large_names;
  vars = pos 0 ∷ pos 0 ∷ pos 0 ∷ pos 0 ∷ pos 0 ∷ pos 0 ∷ pos 0 ∷ pos 0 ∷ [];
  sems = [];
  barriers = [];
  threads = workers many 8 ++ unset_thread (last_checks many) ∷ [];
}
