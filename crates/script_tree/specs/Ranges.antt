-- The numbers of a line that are out of range (this project).
use Rattle.std.specs.Prelude.{◌^◌, ◌&&◌, nat_le, nat_lt, Bool, false, not, List, [], ◌∷◌}
use Rattle.std.specs.List.{list_any}
use Rattle.std.specs.Str.Parse.{digits_value}
use Rattle.pct_ask.specs.Tokens.{Token, Number, Symbol}
use Rattle.pct_ask.specs.declared.names.NameKind.{NameKind}
use Rattle.pct_ask.specs.declared.names.NameKind.TheVariants as kinds
use Rattle.script_tree.specs.Forms.{MeantForm, Valued}

-- a number above the greatest i64
abbrev pub is_great : Token → Bool
is_great (Number digits) = nat_le (2 ^ 63) (digits_value 10 digits)
is_great token = false

-- one of the tokens is a number above the greatest i64
abbrev pub has_great : List Token → Bool
has_great tokens = list_any is_great tokens

-- First values that an object may have: an i64 for a variable, 0 to 2147483647 for a semaphore, 1
-- to 1000 for a barrier.
abbrev pub value_fits : NameKind → List Token → Bool
value_fits kinds.Var (Number digits ∷ []) = nat_lt (digits_value 10 digits) (2 ^ 63)
value_fits kinds.Var (Symbol minus ∷ Number digits ∷ []) = nat_le (digits_value 10 digits) (2 ^ 63)
value_fits kinds.Sem (Number digits ∷ []) = nat_le (digits_value 10 digits) 2147483647
value_fits kinds.Barrier (Number digits ∷ []) =
    nat_le 1 (digits_value 10 digits) && nat_le (digits_value 10 digits) 1000
value_fits kind tokens = false

-- A line of these tokens and this form has a first value that its object may not have, or another
-- number above the greatest i64.
abbrev pub is_out_of_range : List Token → MeantForm → Bool
is_out_of_range tokens (Valued kind name value) = not (value_fits kind value)
is_out_of_range tokens form = has_great tokens
