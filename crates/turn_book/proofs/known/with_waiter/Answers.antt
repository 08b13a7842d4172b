use Rattle.std.proofs.Common.{arith, w64}
use Rattle.std.proofs.lemmas.Nat.Bits.{bit_at_set_same, bit_at_set_other, bit_at_clear_same}
use Rattle.std.proofs.lemmas.Nat.Bits.{bit_at_clear_other}
use Rattle.turn_book.proofs.known.with_waiter.Goals as goal

pub returns-in-Some-clause-this : goal.returns-in-Some-clause-this
returns-in-Some-clause-this c = λ waits.
    bit_at_set_same w64 c.args.waiters c.args.thread c.requires

pub returns-in-Some-clause-others : goal.returns-in-Some-clause-others
returns-in-Some-clause-others c = λ u low apart.
    bit_at_set_other w64 c.args.waiters c.args.thread c.requires u apart

pub returns-in_default-clause-others : goal.returns-in_default-clause-others
returns-in_default-clause-others c = λ u low apart.
    bit_at_clear_other w64 c.args.waiters c.args.thread c.requires u low apart

pub returns-in_default-clause-unlocking : goal.returns-in_default-clause-unlocking
returns-in_default-clause-unlocking c = λ is m.
    let clear = bit_at_clear_same w64 c.args.waiters c.args.thread c.requires in
    absurd (omega (arith, is, clear))
