use Rattle.std.proofs.Common.{◌≡◌, ◌+◌, ◌*◌, ◌^◌, min, get_or, take_all, arith, rules}
use Rattle.std.specs.Char.{digit_value}
use Rattle.std.proofs.lemmas.Int.Digits.{digits_value_more}
use Rattle.script_parse.proofs.Numbers.{kept_digit}
use Rattle.script_parse.proofs.number.number_of.Goals as goal

pub loop-byte-preserved : goal.loop-byte-preserved
loop-byte-preserved c =
    let digits = c.args.digits.now in
    let i = c.loop-byte.byte-index in
    let next : c.min-value.result ≡ min (c.loop-byte.value * 10 + digit_value (get_or digits i 0))
    (2 ^ 64) = search rules in
    rw (next, digits_value_more 10 digits i c.loop-byte-test.true, c.loop-byte.invariant)
    (kept_digit _ _)

pub returns : goal.returns
returns c =
    let whole = take_all c.loop-byte.byte-index c.args.digits.now (omega arith) in
    rw whole at c.loop-byte.invariant
