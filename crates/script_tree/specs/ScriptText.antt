-- A script as its names, the first values of its objects, and its threads' statements (this
-- project).
use Rattle.std.specs.Prelude.{ℕ, ℤ, List}
use Rattle.pct_ask.specs.NameLists.{NameLists}
use Rattle.script_tree.specs.Trees.{Statements}

-- a thread: the line of its `thread NAME`, and its statements
pub record Thread : Type 0 where
  pub line : ℕ
  pub body : Statements

-- a script: the version of its language and its names; in the order of the names the first values
-- of variables, semaphores and barriers, and the threads
pub record ScriptText : Type 0 where
  pub version : ℕ
  pub names : NameLists
  pub vars : List ℤ
  pub sems : List ℤ
  pub barriers : List ℤ
  pub threads : List Thread
