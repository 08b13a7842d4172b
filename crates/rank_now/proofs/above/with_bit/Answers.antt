use Rattle.std.proofs.Common.{◌∙◌, sym, ap, w64}
use Rattle.std.proofs.lemmas.Nat.Bits.{bit_at_set_same, bit_at_set_other, bit_at_clear_same}
use Rattle.std.proofs.lemmas.Nat.Bits.{bit_at_clear_other}
use Rattle.rank_now.proofs.Words.{bit_of}
use Rattle.rank_now.proofs.above.with_bit.Goals as goal

pub returns-then-set-clause-this : goal.returns-then-set-clause-this
returns-then-set-clause-this c =
    bit_at_set_same w64 c.args.word c.args.thread c.requires ∙ sym (ap bit_of c.if-set.true)

pub returns-then-set-clause-others : goal.returns-then-set-clause-others
returns-then-set-clause-others c = λ u low apart.
    bit_at_set_other w64 c.args.word c.args.thread c.requires u apart

pub returns-else-set-clause-this : goal.returns-else-set-clause-this
returns-else-set-clause-this c =
    bit_at_clear_same w64 c.args.word c.args.thread c.requires ∙ sym (ap bit_of c.if-set.false)

pub returns-else-set-clause-others : goal.returns-else-set-clause-others
returns-else-set-clause-others c = λ u low apart.
    bit_at_clear_other w64 c.args.word c.args.thread c.requires u low apart
