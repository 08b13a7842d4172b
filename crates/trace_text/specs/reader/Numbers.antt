-- How the numbers of a trace are read: canonical decimals (this project).
use Rattle.std.specs.Prelude.{ℕ, ℤ, pos, negsuc, zero, suc, ◌^◌, ◌==◌, Bool, nat_lt, List, [], ◌∷◌}
use Rattle.std.specs.Prelude.{if◌then◌else◌, Option, Some, None}
use Rattle.std.specs.Str.{bytes_eq}
use Rattle.std.specs.Str.Parse.{digits_value}
use Rattle.pct_ask.specs.Numbers.{number_text}

-- the number with a minus before it
abbrev pub minus : ℕ → ℤ
minus zero = pos 0
minus (suc n) = negsuc n

-- the number that a word would spell
abbrev pub guess : List ℕ → ℤ
guess [] = pos 0
guess (b ∷ bs) = if b == 45 then minus (digits_value 10 bs) else pos (digits_value 10 (b ∷ bs))

-- within i64
abbrev pub is_small : ℤ → Bool
is_small (pos n) = nat_lt n (2 ^ 63)
is_small (negsuc n) = nat_lt n (2 ^ 63)

-- the number, where it is within i64
abbrev pub small : ℤ → Option ℤ
small z = if is_small z then Some z else None

-- the i64 of which the word is the canonical decimal
unfoldable pub i64_in : List ℕ → Option ℤ
i64_in word = if bytes_eq (number_text (guess word)) word then small (guess word) else None

-- the number, where it is 0 or more
abbrev pub natural : Option ℤ → Option ℕ
natural None = None
natural (Some (pos n)) = Some n
natural (Some (negsuc n)) = None

-- a number from 0 on
abbrev pub natural_of : List ℕ → Option ℕ
natural_of word = natural (i64_in word)
