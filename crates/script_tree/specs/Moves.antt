-- What a thread does by itself, and what it asks, by the first of its statements that remain (this
-- project).
use Rattle.std.specs.Prelude.{ℕ, ℤ, pos, not, Bool, true, false, if◌then◌else◌, List, [], ◌∷◌, ◌++◌}
use Rattle.std.specs.Prelude.{replicate, Ok, Err, slice_set}
use Rattle.pct_ask.specs.Words.{register_count}
use Rattle.pct_ask.specs.declared.ask.Ask.{Ask}
use Rattle.pct_ask.specs.declared.ask.Ask.TheVariants as asks
use Rattle.script_tree.specs.Trees.{Statement, Statements, Read, Write, Add, Cas, Lock, TryLock}
use Rattle.script_tree.specs.Trees.{Unlock, Wait, Signal, Broadcast, Down, TryDown, Up, Arrive}
use Rattle.script_tree.specs.Trees.{Join, Yield, Assert, Set, If, IfElse, While, Start, RdLock}
use Rattle.script_tree.specs.Trees.{WrLock, TryRdLock, TryWrLock, RwUnlock, statement_list, line_of}
use Rattle.script_tree.specs.Machine.{Act, Moves, Asks, Ends}
use Rattle.script_tree.specs.Values.{Value, is_zero, value_of}

-- a thread between two moves: the statements that remain, its sixteen numbers, and whether it has
-- had the first answer of the `wait` or `arrive` at the head
pub record State : Type 0 where
  pub rest : List Statement
  pub registers : List ℤ
  pub halfway : Bool

-- before these statements, with these numbers
abbrev pub state_before : List Statement → List ℤ → State
state_before rest registers = record { rest = rest; registers = registers; halfway = false }

-- a thread at its beginning: all its statements remain, and each register has 0
abbrev pub at_start : Statements → State
at_start body = state_before (statement_list body) (replicate register_count (pos 0))

-- of a thread that has ended, no statement remains
abbrev pub end_state : State
end_state = state_before [] []

-- a local move by a value
abbrev pub moves : Value → (ℤ → State) → Act State
moves (Ok n) next = Moves (Ok (next n))
moves (Err kind) next = Moves (Err kind)

-- an ask by a value. After a fault the thread has ended
abbrev pub asks_by : Value → (ℤ → Act State) → Act State
asks_by (Ok n) act = act n
asks_by (Err kind) act = Asks (asks.Fault kind) (λ answer. end_state)

-- the first where a number is other than 0
abbrev pub chosen_block : ℤ → List Statement → List Statement → List Statement
chosen_block n first second = if is_zero n then second else first

module _ (rest : List Statement) (registers : List ℤ) where
  -- with a register that has a value
  abbrev pub with_register : ℕ → ℤ → State
  with_register reg n = state_before rest (slice_set registers reg n)

  -- an ask whose answer goes into a register
  abbrev pub asks_into : ℕ → Ask → Act State
  asks_into reg ask = Asks ask (with_register reg)

  -- an ask whose answer tells nothing: the registers stay as they are
  abbrev pub asks_only : Ask → Act State
  asks_only ask = Asks ask (λ answer. state_before rest registers)

  -- between the two asks of a statement
  abbrev pub state_halfway : Statement → State
  state_halfway s = record { rest = s ∷ rest; registers = registers; halfway = true }

  -- what a statement does before the rest
  abbrev pub act : Bool → Statement → Act State
  act halfway (Read line reg var) = asks_into reg (asks.Read var)
  act halfway (Write line var value) =
      asks_by (value_of registers value) (λ n. asks_only (asks.Write var n))
  act halfway (Add line reg var value) =
      asks_by (value_of registers value) (λ n. asks_into reg (asks.Add var n))
  act halfway (Cas line reg var old new) =
      asks_by (value_of registers old) (λ m.
      asks_by (value_of registers new) (λ n. asks_into reg (asks.Cas var m n)))
  act halfway (Lock line mutex) = asks_only (asks.Lock mutex)
  act halfway (TryLock line reg mutex) = asks_into reg (asks.TryLock mutex)
  act halfway (Unlock line mutex) = asks_only (asks.Unlock mutex)
  act false (Wait line cond mutex) =
      Asks (asks.Release cond mutex) (λ answer. state_halfway (Wait line cond mutex))
  act true (Wait line cond mutex) = asks_only (asks.Regain cond mutex)
  act halfway (Signal line cond) = asks_only (asks.Signal cond)
  act halfway (Broadcast line cond) = asks_only (asks.Broadcast cond)
  act halfway (Down line sem) = asks_only (asks.Down sem)
  act halfway (TryDown line reg sem) = asks_into reg (asks.TryDown sem)
  act halfway (Up line sem) = asks_only (asks.Up sem)
  act false (Arrive line reg barrier) =
      Asks (asks.Arrive barrier) (λ answer. state_halfway (Arrive line reg barrier))
  act true (Arrive line reg barrier) = asks_into reg (asks.Leave barrier)
  act halfway (Join line thread) = asks_only (asks.Join thread)
  act halfway (Yield line) = asks_only asks.Yield
  act halfway (Assert line test) =
      asks_by (value_of registers test) (λ n. asks_only (asks.Check (not (is_zero n))))
  act halfway (Set line reg value) = moves (value_of registers value) (with_register reg)
  act halfway (If line test first) =
      moves (value_of registers test)
      (λ n. state_before (chosen_block n (statement_list first ++ rest) rest) registers)
  act halfway (IfElse line test first otherwise) =
      moves (value_of registers test) (λ n.
      state_before (chosen_block n (statement_list first ++ rest)
      (statement_list otherwise ++ rest)) registers)
  act halfway (While line test body) =
      moves (value_of registers test) (λ n.
      state_before
      (chosen_block n (statement_list body ++ While line test body ∷ rest) rest) registers)
  act halfway (Start line thread) = asks_only (asks.Start thread)
  act halfway (RdLock line rwlock) = asks_only (asks.RdLock rwlock)
  act halfway (WrLock line rwlock) = asks_only (asks.WrLock rwlock)
  act halfway (TryRdLock line reg rwlock) = asks_into reg (asks.TryRdLock rwlock)
  act halfway (TryWrLock line reg rwlock) = asks_into reg (asks.TryWrLock rwlock)
  act halfway (RwUnlock line rwlock) = asks_only (asks.RwUnlock rwlock)

-- the first of the statements that remain, on its line; at its end, on the line `end`, a thread
-- asks nothing
abbrev pub head : (end : ℕ) → State → ℕ × Act State
head end state = head_of state.rest state.registers state.halfway
  where
    head_of : List Statement → List ℤ → Bool → ℕ × Act State
    head_of [] registers halfway = (end, Ends)
    head_of (s ∷ rest) registers halfway = (line_of s, act rest registers halfway s)
