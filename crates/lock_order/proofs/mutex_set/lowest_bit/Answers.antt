use Rattle.std.proofs.Common.{arith}
use Rattle.lock_order.proofs.Bits.{lowest-is, has-none}
use Rattle.lock_order.proofs.mutex_set.lowest_bit.Goals as goal

pub returns-then-bits-eq0 : goal.returns-then-bits-eq0
returns-then-bits-eq0 c = λ mutex. has-none c.args.bits mutex c.if-bits-eq0.true

pub returns-else-bits-eq0 : goal.returns-else-bits-eq0
returns-else-bits-eq0 c = lowest-is c.args.bits (omega arith) (omega arith)
