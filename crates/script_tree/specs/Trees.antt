-- The statements and expressions of a script as trees, without where they lie in memory (this
-- project).
use Rattle.std.specs.Prelude.{ℕ, ℤ, Bool, true, false, List, [], ◌∷◌}
use Rattle.script_tree.specs.declared.expr.Op.{Op}

-- a number, a register by its place, or an operator with its one part or its two
pub data Expression : Type 0 where
  Number : (value : ℤ) → Expression
  Reg : (reg : ℕ) → Expression
  Not : Expression → Expression
  Minus : Expression → Expression
  Two : Op → Expression → Expression → Expression

mutual
  -- a statement with its line. Objects, threads and registers go by their places, from 0
  pub data Statement : Type 0 where
    Read : (line reg var : ℕ) → Statement
    Write : (line var : ℕ) (value : Expression) → Statement
    Add : (line reg var : ℕ) (value : Expression) → Statement
    Cas : (line reg var : ℕ) (old new : Expression) → Statement
    Lock : (line mutex : ℕ) → Statement
    TryLock : (line reg mutex : ℕ) → Statement
    Unlock : (line mutex : ℕ) → Statement
    Wait : (line cond mutex : ℕ) → Statement
    Signal : (line cond : ℕ) → Statement
    Broadcast : (line cond : ℕ) → Statement
    Down : (line sem : ℕ) → Statement
    TryDown : (line reg sem : ℕ) → Statement
    Up : (line sem : ℕ) → Statement
    Arrive : (line reg barrier : ℕ) → Statement
    Join : (line thread : ℕ) → Statement
    Yield : (line : ℕ) → Statement
    Assert : (line : ℕ) (test : Expression) → Statement
    Set : (line reg : ℕ) (value : Expression) → Statement
    If : (line : ℕ) (test : Expression) (first : Statements) → Statement
    IfElse : (line : ℕ) (test : Expression) (first otherwise : Statements) → Statement
    While : (line : ℕ) (test : Expression) (body : Statements) → Statement
    Start : (line thread : ℕ) → Statement
    RdLock : (line rwlock : ℕ) → Statement
    WrLock : (line rwlock : ℕ) → Statement
    TryRdLock : (line reg rwlock : ℕ) → Statement
    TryWrLock : (line reg rwlock : ℕ) → Statement
    RwUnlock : (line rwlock : ℕ) → Statement

  -- statements in order, and then the line of the `end` or `else` that closes them
  pub data Statements : Type 0 where
    Closed : (line : ℕ) → Statements
    Then : Statement → Statements → Statements

-- the line of a statement
abbrev pub line_of : Statement → ℕ
line_of (Read line reg var) = line
line_of (Write line var value) = line
line_of (Add line reg var value) = line
line_of (Cas line reg var old new) = line
line_of (Lock line mutex) = line
line_of (TryLock line reg mutex) = line
line_of (Unlock line mutex) = line
line_of (Wait line cond mutex) = line
line_of (Signal line cond) = line
line_of (Broadcast line cond) = line
line_of (Down line sem) = line
line_of (TryDown line reg sem) = line
line_of (Up line sem) = line
line_of (Arrive line reg barrier) = line
line_of (Join line thread) = line
line_of (Yield line) = line
line_of (Assert line test) = line
line_of (Set line reg value) = line
line_of (If line test first) = line
line_of (IfElse line test first otherwise) = line
line_of (While line test body) = line
line_of (Start line thread) = line
line_of (RdLock line rwlock) = line
line_of (WrLock line rwlock) = line
line_of (TryRdLock line reg rwlock) = line
line_of (TryWrLock line reg rwlock) = line
line_of (RwUnlock line rwlock) = line

-- a statement that holds no others
abbrev pub has_no_block : Statement → Bool
has_no_block (If line test first) = false
has_no_block (IfElse line test first otherwise) = false
has_no_block (While line test body) = false
has_no_block s = true

-- the statements without the line that closes them
abbrev pub statement_list : Statements → List Statement
statement_list (Closed line) = []
statement_list (Then s rest) = s ∷ statement_list rest

-- the line of the `end` or `else` that closes the statements
abbrev pub end_line : Statements → ℕ
end_line (Closed line) = line
end_line (Then s rest) = end_line rest

-- these statements, closed on this line
abbrev pub closed_at : ℕ → List Statement → Statements
closed_at line [] = Closed line
closed_at line (s ∷ rest) = Then s (closed_at line rest)
