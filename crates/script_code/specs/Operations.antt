-- The operations of flat code, without where they lie in memory (this project).
use Rattle.std.specs.Prelude.{ℕ, List, map}
use Rattle.script_tree.specs.Trees.{Expression, Statement}
use Rattle.script_tree.specs.Seen.{expression, statement}
use Rattle.script_code.specs.declared.flat.Flat.{Flat}
use Rattle.script_code.specs.declared.flat.Flat.TheVariants as flats

-- an operation, with the places of those that may come next
pub data Operation : Type 0 where
  Do : (s : Statement) (next : ℕ) → Operation
  Test : (line : ℕ) (test : Expression) (next otherwise : ℕ) → Operation
  End : (line : ℕ) → Operation
  Begin : (line next : ℕ) → Operation

-- an operation of the code, with its statement or its test as a tree
abbrev pub operation : Flat → Operation
operation (flats.Do stmt next) = Do (statement stmt) next
operation (flats.Test line test next otherwise) = Test line (expression test) next otherwise
operation (flats.End line) = End line
operation (flats.Begin line next) = Begin line next

-- the operations of one thread, in order
abbrev pub operations : List Flat → List Operation
operations flats = map operation flats

-- the operations of each thread
abbrev pub listings : List (List Flat) → List (List Operation)
listings lists = map operations lists
