-- What an operator makes of two numbers (this project).
use Rattle.std.specs.Prelude.{ℤ, ◌+ℤ◌, ◌-ℤ◌, ◌*ℤ◌, pos, not, int_lt, int_le, if◌then◌else◌, Option}
use Rattle.std.specs.Prelude.{Some, None}
use Rattle.std.specs.Ordering.{int_eq}
use Rattle.script_tree.specs.Values.{Value, i64_or_overflow, is_zero, truth, quotient, remainder}
use Rattle.script_tree.specs.declared.expr.Op.{Op}
use Rattle.script_tree.specs.declared.expr.Op.TheVariants.{Or, And, Eq, Ne, Lt, Le, Gt, Ge, Plus}
use Rattle.script_tree.specs.declared.expr.Op.TheVariants.{Less, Times, Over, Rest}

-- what the left number alone decides
abbrev pub decided_by_left : Op → ℤ → Option ℤ
decided_by_left Or x = if is_zero x then None else Some (pos 1)
decided_by_left And x = if is_zero x then Some (pos 0) else None
decided_by_left op x = None

-- what both numbers make, where the left one alone decides nothing
abbrev pub combined_value : Op → ℤ → ℤ → Value
combined_value Or x y = truth (not (is_zero y))
combined_value And x y = truth (not (is_zero y))
combined_value Eq x y = truth (int_eq x y)
combined_value Ne x y = truth (not (int_eq x y))
combined_value Lt x y = truth (int_lt x y)
combined_value Le x y = truth (int_le x y)
combined_value Gt x y = truth (int_lt y x)
combined_value Ge x y = truth (int_le y x)
combined_value Plus x y = i64_or_overflow (x +ℤ y)
combined_value Less x y = i64_or_overflow (x -ℤ y)
combined_value Times x y = i64_or_overflow (x *ℤ y)
combined_value Over x y = quotient x y
combined_value Rest x y = remainder x y
