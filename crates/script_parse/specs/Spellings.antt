-- How an expression as the code reads it stands for a tree.
use Rattle.std.specs.Prelude.{pos}
use Rattle.std.specs.Str.Parse.{digits_value}
use Rattle.script_tree.specs.Trees.{Expression}
use Rattle.script_tree.specs.Trees as trees
use Rattle.script_parse.specs.declared.spelling.Spelling.{Spelling, Spelling-F, fold-Spelling}

-- an expression, with its parts seen already; its digits are the number that they stand for
abbrev pub spelled_step : Spelling-F Expression → Expression
spelled_step (Spelling-F.Number digits) = trees.Number (pos (digits_value 10 digits.now))
spelled_step (Spelling-F.Reg reg) = trees.Reg reg
spelled_step (Spelling-F.Not part) = trees.Not part.value
spelled_step (Spelling-F.Minus part) = trees.Minus part.value
spelled_step (Spelling-F.Two op left right) = trees.Two op left.value right.value

-- the tree that is spelled, whatever its numbers are
abbrev pub spelled_tree : Spelling → Expression
spelled_tree = fold-Spelling Expression spelled_step
