-- What an expression comes to (two's complement of 64 bits, as i64 of Rust; faults are this
-- project's).
use Rattle.std.specs.Prelude.{ℤ, pos, negsuc, ◌^◌, ◌+ℤ◌, ◌-ℤ◌, ◌*ℤ◌, neg_ℤ, Bool, true, false, not}
use Rattle.std.specs.Prelude.{nat_lt, int_lt, int_le, int_div, int_rem, if◌then◌else◌, List, Result}
use Rattle.std.specs.Prelude.{Ok, Err, slice_index_or}
use Rattle.std.specs.Ordering.{int_eq}
use Rattle.pct_ask.specs.declared.ask.FaultKind.{FaultKind}
use Rattle.pct_ask.specs.declared.ask.FaultKind.TheVariants.{Overflow, ZeroDivisor}
use Rattle.script_tree.specs.Trees.{Expression, Number, Reg, Not, Minus, Two}
use Rattle.script_tree.specs.declared.expr.Op.{Op}
use Rattle.script_tree.specs.declared.expr.Op.TheVariants.{Or, And, Eq, Ne, Lt, Le, Gt, Ge, Plus}
use Rattle.script_tree.specs.declared.expr.Op.TheVariants.{Less, Times, Over, Rest}

-- a number, or why there is none
abbrev pub Value : Type 0
Value = Result ℤ FaultKind

-- goes on with a number, and keeps a fault
abbrev pub on_value : Value → (ℤ → Value) → Value
on_value (Ok n) go = go n
on_value (Err kind) go = Err kind

-- the left part first: its fault is the fault
abbrev pub on_both : (ℤ → ℤ → Value) → Value → Value → Value
on_both f a b = on_value a (λ x. on_value b (λ y. f x y))

-- a number that i64 has
abbrev pub i64_or_overflow : ℤ → Value
i64_or_overflow (pos n) = if nat_lt n (2 ^ 63) then Ok (pos n) else Err Overflow
i64_or_overflow (negsuc n) = if nat_lt n (2 ^ 63) then Ok (negsuc n) else Err Overflow

-- whether a number is 0, which stands for false
abbrev pub is_zero : ℤ → Bool
is_zero n = int_eq n (pos 0)

-- 1 for what holds, and 0 for what doesn't
abbrev pub truth : Bool → Value
truth true = Ok (pos 1)
truth false = Ok (pos 0)

-- truncated toward zero
abbrev pub quotient : ℤ → ℤ → Value
quotient x y = if is_zero y then Err ZeroDivisor else i64_or_overflow (int_div x y)

-- what the quotient leaves, where there is a quotient
abbrev pub remainder : ℤ → ℤ → Value
remainder x y = on_value (quotient x y) (λ q. Ok (int_rem x y))

-- `||`: the right part counts only where the left one is 0
abbrev pub or_value : Value → Value → Value
or_value a b =
    on_value a (λ x. if is_zero x then on_value b (λ y. truth (not (is_zero y))) else truth true)

-- `&&`: the right part counts only where the left one is other than 0
abbrev pub and_value : Value → Value → Value
and_value a b =
    on_value a (λ x. if is_zero x then truth false else on_value b (λ y. truth (not (is_zero y))))

-- what an operator makes of its left part and its right one
abbrev pub operator_value : Op → Value → Value → Value
operator_value Or a b = or_value a b
operator_value And a b = and_value a b
operator_value Eq a b = on_both (λ x y. truth (int_eq x y)) a b
operator_value Ne a b = on_both (λ x y. truth (not (int_eq x y))) a b
operator_value Lt a b = on_both (λ x y. truth (int_lt x y)) a b
operator_value Le a b = on_both (λ x y. truth (int_le x y)) a b
operator_value Gt a b = on_both (λ x y. truth (int_lt y x)) a b
operator_value Ge a b = on_both (λ x y. truth (int_le y x)) a b
operator_value Plus a b = on_both (λ x y. i64_or_overflow (x +ℤ y)) a b
operator_value Less a b = on_both (λ x y. i64_or_overflow (x -ℤ y)) a b
operator_value Times a b = on_both (λ x y. i64_or_overflow (x *ℤ y)) a b
operator_value Over a b = on_both quotient a b
operator_value Rest a b = on_both remainder a b

-- what an expression comes to where the registers have these numbers
abbrev pub value_of : List ℤ → Expression → Value
value_of registers (Number n) = Ok n
value_of registers (Reg r) = Ok (slice_index_or registers r (pos 0))
value_of registers (Not a) = on_value (value_of registers a) (λ x. truth (is_zero x))
value_of registers (Minus a) = on_value (value_of registers a) (λ x. i64_or_overflow (neg_ℤ x))
value_of registers (Two op a b) = operator_value op (value_of registers a) (value_of registers b)
