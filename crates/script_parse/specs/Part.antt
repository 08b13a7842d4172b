-- What was read of a script below its header.
use Rattle.std.specs.Prelude.{ℕ, ℤ, List}
use Rattle.pct_ask.specs.NameLists.{NameLists}
use Rattle.script_tree.specs.Trees.{Expression, Statement, Statements}
use Rattle.script_tree.specs.ScriptText.{Thread as ThreadTree}

-- what a block begins with: a thread, an `if` or a `while` on its line, or an `else` with what
-- stands before it
pub data Opening : Type 0 where
  Thread : (line : ℕ) → Opening
  If : (line : ℕ) (test : Expression) → Opening
  Else : (line : ℕ) (test : Expression) (first : Statements) → Opening
  While : (line : ℕ) (test : Expression) → Opening

-- a block that isn't closed yet
pub record Open : Type 0 where
  pub opening : Opening
  pub done : List Statement

-- what was read of a script, with its open blocks, the innermost first
pub record ReadPart : Type 0 where
  pub version : ℕ
  pub names : NameLists
  pub vars : List ℤ
  pub sems : List ℤ
  pub barriers : List ℤ
  pub threads : List ThreadTree
  pub open_blocks : List Open
