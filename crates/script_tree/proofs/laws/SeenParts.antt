-- What a statement and a block of the code are seen as, by their parts.
use Rattle.std.proofs.Common.{◌≡◌, ℕ, ℤ, List, [], ◌∷◌, Box, Global, Some, None, refl, sym, ap, ◌∙◌}
use Rattle.script_tree.specs.Trees as trees
use Rattle.script_tree.specs.Trees.{Expression, Statement, Statements, statement_list, end_line}
use Rattle.script_tree.specs.Trees.{closed_at}
use Rattle.script_tree.specs.Seen.{expression, statement, block, statements, expression_step}
use Rattle.script_tree.specs.Seen.{statement_step, block_step}
use Rattle.script_tree.specs.declared.expr.Op.{Op}
use Rattle.script_tree.specs.declared.expr.Expr.{Expr, Expr-F, fold-roll-Expr}
use Rattle.script_tree.specs.declared.expr.Expr.TheVariants as exprs
use Rattle.script_tree.specs.declared.stmt.Block.{Block, fold_out-Block}
use Rattle.script_tree.specs.declared.stmt.Stmt.{Stmt-F, fold-roll-Stmt}
use Rattle.script_tree.specs.declared.stmt.Stmt.TheVariants.{Read, Write, Add, Cas, Lock, TryLock}
use Rattle.script_tree.specs.declared.stmt.Stmt.TheVariants.{Unlock, Wait, Signal, Broadcast, Down}
use Rattle.script_tree.specs.declared.stmt.Stmt.TheVariants.{TryDown, Up, Arrive, Join, Yield}
use Rattle.script_tree.specs.declared.stmt.Stmt.TheVariants.{Assert, Set, While, Start, RdLock}
use Rattle.script_tree.specs.declared.stmt.Stmt.TheVariants.{WrLock, TryRdLock, TryWrLock, RwUnlock}
use Rattle.script_tree.specs.declared.stmt.Stmt.TheVariants.{If, rolls-Read, rolls-Write, rolls-Add}
use Rattle.script_tree.specs.declared.stmt.Stmt.TheVariants.{rolls-Cas, rolls-Lock, rolls-TryLock}
use Rattle.script_tree.specs.declared.stmt.Stmt.TheVariants.{rolls-Unlock, rolls-Wait, rolls-Signal}
use Rattle.script_tree.specs.declared.stmt.Stmt.TheVariants.{rolls-Broadcast, rolls-Down}
use Rattle.script_tree.specs.declared.stmt.Stmt.TheVariants.{rolls-TryDown, rolls-Up, rolls-Arrive}
use Rattle.script_tree.specs.declared.stmt.Stmt.TheVariants.{rolls-Join, rolls-Yield, rolls-Assert}
use Rattle.script_tree.specs.declared.stmt.Stmt.TheVariants.{rolls-Set, rolls-While, rolls-Start}
use Rattle.script_tree.specs.declared.stmt.Stmt.TheVariants.{rolls-RdLock, rolls-WrLock}
use Rattle.script_tree.specs.declared.stmt.Stmt.TheVariants.{rolls-TryRdLock, rolls-TryWrLock}
use Rattle.script_tree.specs.declared.stmt.Stmt.TheVariants.{rolls-RwUnlock, rolls-If}

pub expression-Number : (n : ℤ) → expression (exprs.Number n) ≡ trees.Number n
expression-Number n =
    ap expression (sym (exprs.rolls-Number n))
    ∙ fold-roll-Expr Expression expression_step (Expr-F.Number n)

pub expression-Reg : (reg : ℕ) → expression (exprs.Reg reg) ≡ trees.Reg reg
expression-Reg reg =
    ap expression (sym (exprs.rolls-Reg reg))
    ∙ fold-roll-Expr Expression expression_step (Expr-F.Reg reg)

pub expression-Not : (a : Box Expr Global)
    → expression (exprs.Not a) ≡ trees.Not (expression a.value)
expression-Not a =
    ap expression (sym (exprs.rolls-Not a))
    ∙ fold-roll-Expr Expression expression_step (Expr-F.Not a)

pub expression-Minus : (a : Box Expr Global)
    → expression (exprs.Minus a) ≡ trees.Minus (expression a.value)
expression-Minus a =
    ap expression (sym (exprs.rolls-Minus a))
    ∙ fold-roll-Expr Expression expression_step (Expr-F.Minus a)

pub expression-Two : (op : Op) (a b : Box Expr Global)
    → expression (exprs.Two op a b) ≡ trees.Two op (expression a.value) (expression b.value)
expression-Two op a b =
    ap expression (sym (exprs.rolls-Two op a b))
    ∙ fold-roll-Expr Expression expression_step (Expr-F.Two op a b)

pub statement-Read : (line : ℕ) (reg : ℕ) (var : ℕ)
    → statement (Read line reg var) ≡ trees.Read line reg var
statement-Read line reg var =
    ap statement (sym (rolls-Read line reg var))
    ∙ fold-roll-Stmt Statement Statements statement_step block_step (Stmt-F.Read line reg var)

pub statement-Write : (line : ℕ) (var : ℕ) (value : Expr)
    → statement (Write line var value) ≡ trees.Write line var (expression value)
statement-Write line var value =
    ap statement (sym (rolls-Write line var value))
    ∙ fold-roll-Stmt Statement Statements statement_step block_step (Stmt-F.Write line var value)

pub statement-Add : (line : ℕ) (reg : ℕ) (var : ℕ) (value : Expr)
    → statement (Add line reg var value) ≡ trees.Add line reg var (expression value)
statement-Add line reg var value =
    ap statement (sym (rolls-Add line reg var value))
    ∙ fold-roll-Stmt Statement Statements statement_step block_step (Stmt-F.Add line reg var value)

pub statement-Cas : (line : ℕ) (reg : ℕ) (var : ℕ) (old : Expr) (new : Expr)
    → statement (Cas line reg var old new)
    ≡ trees.Cas line reg var (expression old) (expression new)
statement-Cas line reg var old new =
    ap statement (sym (rolls-Cas line reg var old new))
    ∙ fold-roll-Stmt Statement Statements statement_step block_step
    (Stmt-F.Cas line reg var old new)

pub statement-Lock : (line : ℕ) (mutex : ℕ) → statement (Lock line mutex) ≡ trees.Lock line mutex
statement-Lock line mutex =
    ap statement (sym (rolls-Lock line mutex))
    ∙ fold-roll-Stmt Statement Statements statement_step block_step (Stmt-F.Lock line mutex)

pub statement-TryLock : (line : ℕ) (reg : ℕ) (mutex : ℕ)
    → statement (TryLock line reg mutex) ≡ trees.TryLock line reg mutex
statement-TryLock line reg mutex =
    ap statement (sym (rolls-TryLock line reg mutex))
    ∙ fold-roll-Stmt Statement Statements statement_step block_step (Stmt-F.TryLock line reg mutex)

pub statement-Unlock : (line : ℕ) (mutex : ℕ)
    → statement (Unlock line mutex) ≡ trees.Unlock line mutex
statement-Unlock line mutex =
    ap statement (sym (rolls-Unlock line mutex))
    ∙ fold-roll-Stmt Statement Statements statement_step block_step (Stmt-F.Unlock line mutex)

pub statement-Wait : (line : ℕ) (cond : ℕ) (mutex : ℕ)
    → statement (Wait line cond mutex) ≡ trees.Wait line cond mutex
statement-Wait line cond mutex =
    ap statement (sym (rolls-Wait line cond mutex))
    ∙ fold-roll-Stmt Statement Statements statement_step block_step (Stmt-F.Wait line cond mutex)

pub statement-Signal : (line : ℕ) (cond : ℕ) → statement (Signal line cond) ≡ trees.Signal line cond
statement-Signal line cond =
    ap statement (sym (rolls-Signal line cond))
    ∙ fold-roll-Stmt Statement Statements statement_step block_step (Stmt-F.Signal line cond)

pub statement-Broadcast : (line : ℕ) (cond : ℕ)
    → statement (Broadcast line cond) ≡ trees.Broadcast line cond
statement-Broadcast line cond =
    ap statement (sym (rolls-Broadcast line cond))
    ∙ fold-roll-Stmt Statement Statements statement_step block_step (Stmt-F.Broadcast line cond)

pub statement-Down : (line : ℕ) (sem : ℕ) → statement (Down line sem) ≡ trees.Down line sem
statement-Down line sem =
    ap statement (sym (rolls-Down line sem))
    ∙ fold-roll-Stmt Statement Statements statement_step block_step (Stmt-F.Down line sem)

pub statement-TryDown : (line : ℕ) (reg : ℕ) (sem : ℕ)
    → statement (TryDown line reg sem) ≡ trees.TryDown line reg sem
statement-TryDown line reg sem =
    ap statement (sym (rolls-TryDown line reg sem))
    ∙ fold-roll-Stmt Statement Statements statement_step block_step (Stmt-F.TryDown line reg sem)

pub statement-Up : (line : ℕ) (sem : ℕ) → statement (Up line sem) ≡ trees.Up line sem
statement-Up line sem =
    ap statement (sym (rolls-Up line sem))
    ∙ fold-roll-Stmt Statement Statements statement_step block_step (Stmt-F.Up line sem)

pub statement-Arrive : (line : ℕ) (reg : ℕ) (barrier : ℕ)
    → statement (Arrive line reg barrier) ≡ trees.Arrive line reg barrier
statement-Arrive line reg barrier =
    ap statement (sym (rolls-Arrive line reg barrier))
    ∙ fold-roll-Stmt Statement Statements statement_step block_step (Stmt-F.Arrive line reg barrier)

pub statement-Join : (line : ℕ) (thread : ℕ) → statement (Join line thread) ≡ trees.Join line thread
statement-Join line thread =
    ap statement (sym (rolls-Join line thread))
    ∙ fold-roll-Stmt Statement Statements statement_step block_step (Stmt-F.Join line thread)

pub statement-Yield : (line : ℕ) → statement (Yield line) ≡ trees.Yield line
statement-Yield line =
    ap statement (sym (rolls-Yield line))
    ∙ fold-roll-Stmt Statement Statements statement_step block_step (Stmt-F.Yield line)

pub statement-Assert : (line : ℕ) (test : Expr)
    → statement (Assert line test) ≡ trees.Assert line (expression test)
statement-Assert line test =
    ap statement (sym (rolls-Assert line test))
    ∙ fold-roll-Stmt Statement Statements statement_step block_step (Stmt-F.Assert line test)

pub statement-Set : (line : ℕ) (reg : ℕ) (value : Expr)
    → statement (Set line reg value) ≡ trees.Set line reg (expression value)
statement-Set line reg value =
    ap statement (sym (rolls-Set line reg value))
    ∙ fold-roll-Stmt Statement Statements statement_step block_step (Stmt-F.Set line reg value)

pub statement-While : (line : ℕ) (test : Expr) (body : Block)
    → statement (While line test body) ≡ trees.While line (expression test) (block body)
statement-While line test body =
    ap statement (sym (rolls-While line test body))
    ∙ fold-roll-Stmt Statement Statements statement_step block_step (Stmt-F.While line test body)

pub statement-Start : (line : ℕ) (thread : ℕ)
    → statement (Start line thread) ≡ trees.Start line thread
statement-Start line thread =
    ap statement (sym (rolls-Start line thread))
    ∙ fold-roll-Stmt Statement Statements statement_step block_step (Stmt-F.Start line thread)

pub statement-RdLock : (line : ℕ) (rwlock : ℕ)
    → statement (RdLock line rwlock) ≡ trees.RdLock line rwlock
statement-RdLock line rwlock =
    ap statement (sym (rolls-RdLock line rwlock))
    ∙ fold-roll-Stmt Statement Statements statement_step block_step (Stmt-F.RdLock line rwlock)

pub statement-WrLock : (line : ℕ) (rwlock : ℕ)
    → statement (WrLock line rwlock) ≡ trees.WrLock line rwlock
statement-WrLock line rwlock =
    ap statement (sym (rolls-WrLock line rwlock))
    ∙ fold-roll-Stmt Statement Statements statement_step block_step (Stmt-F.WrLock line rwlock)

pub statement-TryRdLock : (line : ℕ) (reg : ℕ) (rwlock : ℕ)
    → statement (TryRdLock line reg rwlock) ≡ trees.TryRdLock line reg rwlock
statement-TryRdLock line reg rwlock =
    ap statement (sym (rolls-TryRdLock line reg rwlock))
    ∙ fold-roll-Stmt Statement Statements statement_step block_step
    (Stmt-F.TryRdLock line reg rwlock)

pub statement-TryWrLock : (line : ℕ) (reg : ℕ) (rwlock : ℕ)
    → statement (TryWrLock line reg rwlock) ≡ trees.TryWrLock line reg rwlock
statement-TryWrLock line reg rwlock =
    ap statement (sym (rolls-TryWrLock line reg rwlock))
    ∙ fold-roll-Stmt Statement Statements statement_step block_step
    (Stmt-F.TryWrLock line reg rwlock)

pub statement-RwUnlock : (line : ℕ) (rwlock : ℕ)
    → statement (RwUnlock line rwlock) ≡ trees.RwUnlock line rwlock
statement-RwUnlock line rwlock =
    ap statement (sym (rolls-RwUnlock line rwlock))
    ∙ fold-roll-Stmt Statement Statements statement_step block_step (Stmt-F.RwUnlock line rwlock)

pub statement-If : (line : ℕ) (test : Expr) (first : Block)
    → statement (If line test first None) ≡ trees.If line (expression test) (block first)
statement-If line test first =
    ap statement (sym (rolls-If line test first None))
    ∙ fold-roll-Stmt Statement Statements statement_step block_step (Stmt-F.If line test first None)

pub statement-IfElse : (line : ℕ) (test : Expr) (first otherwise : Block)
    → statement (If line test first (Some otherwise))
    ≡ trees.IfElse line (expression test) (block first) (block otherwise)
statement-IfElse line test first otherwise =
    ap statement (sym (rolls-If line test first (Some otherwise)))
    ∙ fold-roll-Stmt Statement Statements statement_step block_step
    (Stmt-F.If line test first (Some otherwise))

pub block-parts : (b : Block) → block b ≡ closed_at b.end_line (statements b.stmts.items)
block-parts b = fold_out-Block Statement Statements statement_step block_step b

pub statement_list-closed_at : (line : ℕ) (rest : List Statement)
    → statement_list (closed_at line rest) ≡ rest
statement_list-closed_at line [] = refl
statement_list-closed_at line (s ∷ rest) = ap (λ r. s ∷ r) (statement_list-closed_at line rest)

pub end_line-closed_at : (line : ℕ) (rest : List Statement) → end_line (closed_at line rest) ≡ line
end_line-closed_at line [] = refl
end_line-closed_at line (s ∷ rest) = end_line-closed_at line rest

pub statement_list-block : (b : Block) → statement_list (block b) ≡ statements b.stmts.items
statement_list-block b =
    ap statement_list (block-parts b)
    ∙ statement_list-closed_at b.end_line (statements b.stmts.items)

pub end_line-block : (b : Block) → end_line (block b) ≡ b.end_line
end_line-block b =
    ap end_line (block-parts b) ∙ end_line-closed_at b.end_line (statements b.stmts.items)

-- what a block, a statement and an expression that are made of parts are seen as
pub ruleset seen_laws = (
  block-parts,
  expression-Number,
  expression-Reg,
  expression-Not,
  expression-Minus,
  expression-Two,
  statement-Read,
  statement-Write,
  statement-Add,
  statement-Cas,
  statement-Lock,
  statement-TryLock,
  statement-Unlock,
  statement-Wait,
  statement-Signal,
  statement-Broadcast,
  statement-Down,
  statement-TryDown,
  statement-Up,
  statement-Arrive,
  statement-Join,
  statement-Yield,
  statement-Assert,
  statement-Set,
  statement-While,
  statement-Start,
  statement-RdLock,
  statement-WrLock,
  statement-TryRdLock,
  statement-TryWrLock,
  statement-RwUnlock,
  statement-If,
  statement-IfElse,
)
