-- Operators by their signs, and the levels that they ask for.
use Rattle.std.proofs.Common.{◌≡◌, ◌+◌, ◌<◌, ◌≤◌, false, Some, refl, arith}
use Rattle.std.specs.Prelude.{codes}
use Rattle.std.specs.Str.{bytes_eq}
use Rattle.script_tree.specs.declared.expr.Op.{Op}
use Rattle.script_tree.specs.declared.expr.Op.TheVariants as ops
use Rattle.script_tree.specs.Expressions.{signs_of, strength, left_level}
use Rattle.script_parse.specs.Machine.{operator_in}

pub operator_at : (op : Op) → operator_in (signs_of op) ≡ Some op
operator_at ops.Or = refl
operator_at op = refl

pub no_parenthesis : (op : Op) → bytes_eq (signs_of op) (codes ")") ≡ false
no_parenthesis ops.Or = refl
no_parenthesis op = refl

-- a strength is at most 4
pub strength_few : (op : Op) → strength op < 5
strength_few ops.Or = omega arith
strength_few op = omega arith

pub left_above : (op : Op) → strength op ≤ left_level op
left_above ops.Or = omega arith
left_above op = omega arith

-- an operator below another's left part is weaker than it, or as strong
pub left_few : (op : Op) → left_level op ≤ strength op + 1
left_few ops.Or = omega arith
left_few op = omega arith
