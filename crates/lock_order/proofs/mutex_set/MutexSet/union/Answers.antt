use Rattle.lock_order.proofs.Bits.{has-union}
use Rattle.lock_order.proofs.mutex_set.MutexSet.union.Goals as goal

pub returns : goal.returns
returns c = has-union c.args.self.bits c.args.other.bits
