-- The statements of a block from one of them on (this project).
use Rattle.std.specs.Prelude.{ℕ, drop}
use Rattle.script_tree.specs.Trees.{Statements, closed_at}
use Rattle.script_tree.specs.Seen.{statements}
use Rattle.script_tree.specs.declared.stmt.Block.{Block}

abbrev pub from : Block → ℕ → Statements
from b i = closed_at b.end_line (statements (drop i b.stmts.items))
