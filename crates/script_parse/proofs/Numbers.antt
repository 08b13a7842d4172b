-- The numbers of digits, as far as they are kept while they are read.
use Rattle.std.proofs.Common.{◌≡◌, ℕ, ◌+◌, ◌*◌, ◌^◌, min, arith}

-- one digit more, as far as a number is kept
pub kept_digit : (value digit : ℕ)
    → min (min value (2 ^ 64) * 10 + digit) (2 ^ 64) ≡ min (value * 10 + digit) (2 ^ 64)
kept_digit value digit = omega arith
