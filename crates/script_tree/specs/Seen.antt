-- How the code's statements and expressions stand for trees (this project).
use Rattle.std.specs.Prelude.{ℕ, List, Option, Some, None, map}
use Rattle.script_tree.specs.declared.expr.Expr.{Expr, Expr-F, fold-Expr}
use Rattle.script_tree.specs.declared.stmt.Stmt.{Stmt, Stmt-F, fold-Stmt}
use Rattle.script_tree.specs.declared.stmt.Block.{Block, Block-F, fold-Block}
use Rattle.script_tree.specs.Trees as trees
use Rattle.script_tree.specs.Trees.{Expression, Statement, Statements, closed_at}

-- an expression, with its parts seen already
abbrev pub expression_step : Expr-F Expression → Expression
expression_step (Expr-F.Number n) = trees.Number n
expression_step (Expr-F.Reg r) = trees.Reg r
expression_step (Expr-F.Not a) = trees.Not a.value
expression_step (Expr-F.Minus a) = trees.Minus a.value
expression_step (Expr-F.Two op a b) = trees.Two op a.value b.value

-- an expression of the code as a tree
abbrev pub expression : Expr → Expression
expression = fold-Expr Expression expression_step

-- an `if` whose blocks are seen already, with or without an `else`
abbrev pub if_step : ℕ → Expression → Statements → Option Statements → Statement
if_step line test first None = trees.If line test first
if_step line test first (Some otherwise) = trees.IfElse line test first otherwise

-- a statement, with its blocks seen already
abbrev pub statement_step : Stmt-F Statement Statements → Statement
statement_step (Stmt-F.Read line reg var) = trees.Read line reg var
statement_step (Stmt-F.Write line var value) = trees.Write line var (expression value)
statement_step (Stmt-F.Add line reg var value) = trees.Add line reg var (expression value)
statement_step (Stmt-F.Cas line reg var old new) =
    trees.Cas line reg var (expression old) (expression new)
statement_step (Stmt-F.Lock line mutex) = trees.Lock line mutex
statement_step (Stmt-F.TryLock line reg mutex) = trees.TryLock line reg mutex
statement_step (Stmt-F.Unlock line mutex) = trees.Unlock line mutex
statement_step (Stmt-F.Wait line cond mutex) = trees.Wait line cond mutex
statement_step (Stmt-F.Signal line cond) = trees.Signal line cond
statement_step (Stmt-F.Broadcast line cond) = trees.Broadcast line cond
statement_step (Stmt-F.Down line sem) = trees.Down line sem
statement_step (Stmt-F.TryDown line reg sem) = trees.TryDown line reg sem
statement_step (Stmt-F.Up line sem) = trees.Up line sem
statement_step (Stmt-F.Arrive line reg barrier) = trees.Arrive line reg barrier
statement_step (Stmt-F.Join line thread) = trees.Join line thread
statement_step (Stmt-F.Yield line) = trees.Yield line
statement_step (Stmt-F.Assert line test) = trees.Assert line (expression test)
statement_step (Stmt-F.Set line reg value) = trees.Set line reg (expression value)
statement_step (Stmt-F.If line test first otherwise) =
    if_step line (expression test) first otherwise
statement_step (Stmt-F.While line test body) = trees.While line (expression test) body
statement_step (Stmt-F.Start line thread) = trees.Start line thread
statement_step (Stmt-F.RdLock line rwlock) = trees.RdLock line rwlock
statement_step (Stmt-F.WrLock line rwlock) = trees.WrLock line rwlock
statement_step (Stmt-F.TryRdLock line reg rwlock) = trees.TryRdLock line reg rwlock
statement_step (Stmt-F.TryWrLock line reg rwlock) = trees.TryWrLock line reg rwlock
statement_step (Stmt-F.RwUnlock line rwlock) = trees.RwUnlock line rwlock

-- a block, with its statements seen already
abbrev pub block_step : Block-F Statement Statements → Statements
block_step block = closed_at block.end_line block.stmts.items

-- a statement of the code as a tree, with those in its blocks
abbrev pub statement : Stmt → Statement
statement = fold-Stmt Statement Statements statement_step block_step

-- the statements of a block of the code as trees, and the line that closes them
abbrev pub block : Block → Statements
block = fold-Block Statement Statements statement_step block_step

abbrev pub statements : List Stmt → List Statement
statements stmts = map statement stmts
