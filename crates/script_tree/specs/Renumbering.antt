-- A script with the line numbers of its canonical layout (this project).
use Rattle.std.specs.Prelude.{ℕ, ◌+◌, ◌≤◌, List, [], ◌∷◌, length, All}
use Rattle.pct_ask.specs.Lines.{lines_of}
use Rattle.script_tree.specs.Trees.{Statement, Statements, Closed, Then, Read, Write, Add, Cas}
use Rattle.script_tree.specs.Trees.{Lock, TryLock, Unlock, Wait, Signal, Broadcast, Down, TryDown}
use Rattle.script_tree.specs.Trees.{Up, Arrive, Join, Yield, Assert, Set, If, IfElse, While, Start}
use Rattle.script_tree.specs.Trees.{RdLock, WrLock, TryRdLock, TryWrLock, RwUnlock}
use Rattle.script_tree.specs.ScriptText.{ScriptText, Thread}
use Rattle.script_tree.specs.Layout.{declared_forms}
use Rattle.pct_ask.specs.declared.limits.TheConstants.{MAX_LINES}

-- how many lines a statement has, with those of its blocks and of each `else` and `end`
abbrev mutual
  pub line_count : Statement → ℕ
  line_count (If line test first) = 1 + lines_count first
  line_count (IfElse line test first otherwise) = 1 + (lines_count first + lines_count otherwise)
  line_count (While line test body) = 1 + lines_count body
  line_count s = 1

  pub lines_count : Statements → ℕ
  lines_count (Closed line) = 1
  lines_count (Then s rest) = line_count s + lines_count rest

-- the statement with the lines that it has where its first one has this number
abbrev mutual
  pub renumbered_statement : ℕ → Statement → Statement
  renumbered_statement n (Read line reg var) = Read n reg var
  renumbered_statement n (Write line var value) = Write n var value
  renumbered_statement n (Add line reg var value) = Add n reg var value
  renumbered_statement n (Cas line reg var old new) = Cas n reg var old new
  renumbered_statement n (Lock line mutex) = Lock n mutex
  renumbered_statement n (TryLock line reg mutex) = TryLock n reg mutex
  renumbered_statement n (Unlock line mutex) = Unlock n mutex
  renumbered_statement n (Wait line cond mutex) = Wait n cond mutex
  renumbered_statement n (Signal line cond) = Signal n cond
  renumbered_statement n (Broadcast line cond) = Broadcast n cond
  renumbered_statement n (Down line sem) = Down n sem
  renumbered_statement n (TryDown line reg sem) = TryDown n reg sem
  renumbered_statement n (Up line sem) = Up n sem
  renumbered_statement n (Arrive line reg barrier) = Arrive n reg barrier
  renumbered_statement n (Join line thread) = Join n thread
  renumbered_statement n (Yield line) = Yield n
  renumbered_statement n (Assert line test) = Assert n test
  renumbered_statement n (Set line reg value) = Set n reg value
  renumbered_statement n (If line test first) = If n test (renumbered_block (n + 1) first)
  renumbered_statement n (IfElse line test first otherwise) =
      IfElse n test (renumbered_block (n + 1) first)
      (renumbered_block (n + 1 + lines_count first) otherwise)
  renumbered_statement n (While line test body) = While n test (renumbered_block (n + 1) body)
  renumbered_statement n (Start line thread) = Start n thread
  renumbered_statement n (RdLock line rwlock) = RdLock n rwlock
  renumbered_statement n (WrLock line rwlock) = WrLock n rwlock
  renumbered_statement n (TryRdLock line reg rwlock) = TryRdLock n reg rwlock
  renumbered_statement n (TryWrLock line reg rwlock) = TryWrLock n reg rwlock
  renumbered_statement n (RwUnlock line rwlock) = RwUnlock n rwlock

  pub renumbered_block : ℕ → Statements → Statements
  renumbered_block n (Closed line) = Closed n
  renumbered_block n (Then s rest) =
      Then (renumbered_statement n s) (renumbered_block (n + line_count s) rest)

-- threads one after another, of which the first begins on this line
abbrev pub renumbered_threads : ℕ → List Thread → List Thread
renumbered_threads n [] = []
renumbered_threads n (t ∷ ts) =
    record { line = n; body = renumbered_block (n + 1) t.body }
    ∷ renumbered_threads (n + 1 + lines_count t.body) ts

-- The same script with each line number replaced by that of its line in the canonical layout, which
-- has the header on line 1, then a line for each object, and then the threads.
abbrev pub renumbered_script : ScriptText → ScriptText
renumbered_script script =
    record script
    { threads = renumbered_threads (2 + length (declared_forms script)) script.threads }

-- A text within the limits of scripts: at most 1,048,576 bytes, and 4,096 lines of at most 256
-- bytes.
pub record IsShort (bytes : List ℕ) : Type 0 where
  pub small : length bytes ≤ 1048576
  pub few_lines : length (lines_of bytes) ≤ MAX_LINES
  pub short_lines : All (λ line. length line ≤ 256) (lines_of bytes)
