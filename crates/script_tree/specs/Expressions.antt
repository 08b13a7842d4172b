-- Expressions, as a relation between tokens and trees by the strength of operators (the levels are
-- C's; a comparison doesn't chain, which is this project's choice).
use Rattle.std.specs.Prelude.{ℕ, pos, ◌+◌, ◌<◌, ◌==◌, if◌then◌else◌, List, [], ◌∷◌, ◌++◌, codes}
use Rattle.std.specs.Str.Parse.{digits_value}
use Rattle.pct_ask.specs.Words.{register_word, register_count}
use Rattle.pct_ask.specs.Tokens.{Token, Word, Number, Symbol}
use Rattle.script_tree.specs.declared.expr.Op.{Op}
use Rattle.script_tree.specs.declared.expr.Op.TheVariants as ops
use Rattle.script_tree.specs.Trees.{Expression}
use Rattle.script_tree.specs.Trees as trees

-- the symbol that an operator is written with
abbrev pub signs_of : Op → List ℕ
signs_of ops.Or = codes "||"
signs_of ops.And = codes "&&"
signs_of ops.Eq = codes "=="
signs_of ops.Ne = codes "!="
signs_of ops.Lt = codes "<"
signs_of ops.Le = codes "<="
signs_of ops.Gt = codes ">"
signs_of ops.Ge = codes ">="
signs_of ops.Plus = codes "+"
signs_of ops.Less = codes "-"
signs_of ops.Times = codes "*"
signs_of ops.Over = codes "/"
signs_of ops.Rest = codes "%"

-- how strongly an operator binds
abbrev pub strength : Op → ℕ
strength ops.Or = 0
strength ops.And = 1
strength ops.Eq = 2
strength ops.Ne = 2
strength ops.Lt = 2
strength ops.Le = 2
strength ops.Gt = 2
strength ops.Ge = 2
strength ops.Plus = 3
strength ops.Less = 3
strength ops.Times = 4
strength ops.Over = 4
strength ops.Rest = 4

-- The level of an operator's left part. Operators of one level group to the left, so that it is
-- their own, but a comparison stands in no part of another.
abbrev pub left_level : Op → ℕ
left_level op = if strength op == 2 then 3 else strength op

-- The tokens spell the tree at a level: 0 to 4 are the binary operators by their strength, 5 is a
-- sign before its part, and 6 is a number, a register or an expression in parentheses.
pub data IsSpelled : ℕ → List Token → Expression → Type 0 where
  number : (digits : List ℕ)
      → IsSpelled 6 (Number digits ∷ []) (trees.Number (pos (digits_value 10 digits)))
  register : (reg : ℕ) → reg < register_count
      → IsSpelled 6 (Word (register_word reg) ∷ []) (trees.Reg reg)
  enclosed : (tokens : List Token) (tree : Expression) → IsSpelled 0 tokens tree
      → IsSpelled 6 (Symbol (codes "(") ∷ (tokens ++ Symbol (codes ")") ∷ [])) tree
  minus : (tokens : List Token) (tree : Expression) → IsSpelled 5 tokens tree
      → IsSpelled 5 (Symbol (codes "-") ∷ tokens) (trees.Minus tree)
  not : (tokens : List Token) (tree : Expression) → IsSpelled 5 tokens tree
      → IsSpelled 5 (Symbol (codes "!") ∷ tokens) (trees.Not tree)
  two : (op : Op) (lefts rights : List Token) (left right : Expression)
      → IsSpelled (left_level op) lefts left → IsSpelled (strength op + 1) rights right
      → IsSpelled (strength op) (lefts ++ Symbol (signs_of op) ∷ rights) (trees.Two op left right)
  stronger : (level : ℕ) (tokens : List Token) (tree : Expression)
      → IsSpelled (level + 1) tokens tree → IsSpelled level tokens tree

-- the tokens are an expression
abbrev pub IsExpression : List Token → Expression → Type 0
IsExpression = IsSpelled 0
