-- What holds of every script: its version, its names, its limits, and what its statements may name
-- (this project).
use Rattle.std.specs.Prelude.{◌≡◌, ℕ, pos, ◌+◌, ◌-◌, ◌≤◌, ◌&&◌, ◌||◌, Bool, true, nat_le, nat_lt}
use Rattle.std.specs.Prelude.{if◌then◌else◌, List, length, int_le, All}
use Rattle.std.specs.List.{list_all}
use Rattle.pct_ask.specs.Ranges.{IsSemValue, IsBarrierCount}
use Rattle.pct_ask.specs.Words.{is_name}
use Rattle.pct_ask.specs.NameLists.{NameLists, all_names}
use Rattle.script_tree.specs.Trees.{Expression, Number, Reg, Not, Minus, Two, Statement, Statements}
use Rattle.script_tree.specs.Trees.{Closed, Then, Read, Write, Add, Cas, Lock, TryLock, Unlock}
use Rattle.script_tree.specs.Trees.{Wait, Signal, Broadcast, Down, TryDown, Up, Arrive, Join, Yield}
use Rattle.script_tree.specs.Trees.{Assert, Set, If, IfElse, While, Start, RdLock, WrLock}
use Rattle.script_tree.specs.Trees.{TryRdLock, TryWrLock, RwUnlock}
use Rattle.script_tree.specs.ScriptText.{Thread, ScriptText}
use Rattle.pct_ask.specs.Words.{register_count}
use Rattle.pct_ask.specs.declared.limits.TheConstants.{MAX_LINES, MAX_THREADS}

-- a line of a script
abbrev pub line_fits : ℕ → Bool
line_fits line = nat_le 1 line && nat_le line MAX_LINES

-- one of the registers r0 to r15
abbrev pub reg_fits : ℕ → Bool
reg_fits reg = nat_lt reg register_count

-- one of the objects that have these names
abbrev pub place_fits : List (List ℕ) → ℕ → Bool
place_fits names place = nat_lt place (length names)

-- numbers are written without a sign, and registers are r0 to r15
abbrev pub expression_fits : Expression → Bool
expression_fits (Number n) = int_le (pos 0) n
expression_fits (Reg r) = reg_fits r
expression_fits (Not a) = expression_fits a
expression_fits (Minus a) = expression_fits a
expression_fits (Two op a b) = expression_fits a && expression_fits b

-- how many statements there are, those inside `if` and `while` too
abbrev mutual
  pub count_of : Statement → ℕ
  count_of (If line test first) = 1 + counts_of first
  count_of (IfElse line test first otherwise) = 1 + (counts_of first + counts_of otherwise)
  count_of (While line test body) = 1 + counts_of body
  count_of s = 1

  pub counts_of : Statements → ℕ
  counts_of (Closed line) = 0
  counts_of (Then s rest) = count_of s + counts_of rest

module _ (version : ℕ) (names : NameLists) where
  -- a statement stands on a line of a script, belongs to the version, and names registers, objects
  -- and threads that there are. At most `room` more blocks may nest
  abbrev mutual
    pub statement_fits : ℕ → Statement → Bool
    statement_fits room (Read line reg var) =
        line_fits line && reg_fits reg && place_fits names.vars var
    statement_fits room (Write line var value) =
        line_fits line && place_fits names.vars var && expression_fits value
    statement_fits room (Add line reg var value) =
        line_fits line && reg_fits reg && place_fits names.vars var && expression_fits value
    statement_fits room (Cas line reg var old new) =
        line_fits line
        && reg_fits reg
        && place_fits names.vars var
        && expression_fits old
        && expression_fits new
    statement_fits room (Lock line mutex) = line_fits line && place_fits names.mutexes mutex
    statement_fits room (TryLock line reg mutex) =
        line_fits line && reg_fits reg && place_fits names.mutexes mutex
    statement_fits room (Unlock line mutex) = line_fits line && place_fits names.mutexes mutex
    statement_fits room (Wait line cond mutex) =
        line_fits line && place_fits names.conds cond && place_fits names.mutexes mutex
    statement_fits room (Signal line cond) = line_fits line && place_fits names.conds cond
    statement_fits room (Broadcast line cond) = line_fits line && place_fits names.conds cond
    statement_fits room (Down line sem) = line_fits line && place_fits names.sems sem
    statement_fits room (TryDown line reg sem) =
        line_fits line && reg_fits reg && place_fits names.sems sem
    statement_fits room (Up line sem) = line_fits line && place_fits names.sems sem
    statement_fits room (Arrive line reg barrier) =
        line_fits line && reg_fits reg && place_fits names.barriers barrier
    statement_fits room (Join line thread) = line_fits line && place_fits names.threads thread
    statement_fits room (Yield line) = line_fits line
    statement_fits room (Assert line test) = line_fits line && expression_fits test
    statement_fits room (Set line reg value) =
        line_fits line && reg_fits reg && expression_fits value
    statement_fits room (If line test first) =
        line_fits line && expression_fits test && nat_lt 0 room && statements_fit (room - 1) first
    statement_fits room (IfElse line test first otherwise) =
        line_fits line
        && expression_fits test
        && nat_lt 0 room
        && statements_fit (room - 1) first
        && statements_fit (room - 1) otherwise
    statement_fits room (While line test body) =
        line_fits line && expression_fits test && nat_lt 0 room && statements_fit (room - 1) body
    statement_fits room (Start line thread) =
        line_fits line && nat_le 2 version && place_fits names.threads thread
    statement_fits room (RdLock line rwlock) =
        line_fits line && nat_le 3 version && place_fits names.rwlocks rwlock
    statement_fits room (WrLock line rwlock) =
        line_fits line && nat_le 3 version && place_fits names.rwlocks rwlock
    statement_fits room (TryRdLock line reg rwlock) =
        line_fits line && nat_le 3 version && reg_fits reg && place_fits names.rwlocks rwlock
    statement_fits room (TryWrLock line reg rwlock) =
        line_fits line && nat_le 3 version && reg_fits reg && place_fits names.rwlocks rwlock
    statement_fits room (RwUnlock line rwlock) =
        line_fits line && nat_le 3 version && place_fits names.rwlocks rwlock

    pub statements_fit : ℕ → Statements → Bool
    statements_fit room (Closed line) = line_fits line
    statements_fit room (Then s rest) = statement_fits room s && statements_fit room rest

  -- a thread's blocks nest at most 32 deep, and it has at most 4,096 statements
  abbrev pub thread_fits : Thread → Bool
  thread_fits t =
      line_fits t.line && statements_fit 32 t.body && nat_le (counts_of t.body) MAX_LINES

-- how many threads a script may have
abbrev pub most_threads : ℕ → ℕ
most_threads version = if nat_le 3 version then MAX_THREADS else 16

-- only the third version has read-write locks
abbrev pub rwlocks_fit : ℕ → List (List ℕ) → Bool
rwlocks_fit version rwlocks = nat_le 3 version || nat_le (length rwlocks) 0

-- what holds of every script
pub record IsScript (script : ScriptText) : Type 0 where
  pub first_version : 1 ≤ script.version
  pub last_version : script.version ≤ 3
  pub lawful_names : list_all (is_name script.version) (all_names script.names) ≡ true
  pub same_vars : length script.vars ≡ length script.names.vars
  pub same_sems : length script.sems ≡ length script.names.sems
  pub same_barriers : length script.barriers ≡ length script.names.barriers
  pub same_threads : length script.threads ≡ length script.names.threads
  pub some_thread : 1 ≤ length script.threads
  pub few_threads : length script.threads ≤ most_threads script.version
  pub known_rwlocks : rwlocks_fit script.version script.names.rwlocks ≡ true
  pub sem_values : All IsSemValue script.sems
  pub barrier_counts : All IsBarrierCount script.barriers
  pub threads_fit : list_all (thread_fits script.version script.names) script.threads ≡ true
