use Rattle.std.proofs.Common.{◌≡◌, ◌^◌, min, take}
use Rattle.std.specs.Str.Parse.{digits_value}
use Rattle.script_parse.proofs.number.number_of.Given as goal

-- the number of the digits so far, as far as it is kept
abbrev pub invariant-loop-byte : goal.invariant-loop-byte
invariant-loop-byte l = l.value ≡ min (digits_value 10 (take l.byte-index l.digits)) (2 ^ 64)
