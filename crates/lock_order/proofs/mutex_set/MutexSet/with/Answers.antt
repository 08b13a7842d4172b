use Rattle.lock_order.proofs.Bits.{has-with}
use Rattle.lock_order.proofs.mutex_set.MutexSet.with.Goals as goal

pub returns : goal.returns
returns c = has-with c.args.self.bits c.args.mutex c.requires
