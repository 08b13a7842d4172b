use Rattle.lock_order.proofs.Bits.{has-without, fewer-bits}
use Rattle.lock_order.proofs.mutex_set.MutexSet.without.Goals as goal

pub returns-clause-rest : goal.returns-clause-rest
returns-clause-rest c = has-without c.args.self.bits c.args.mutex c.requires

-- the number's range stands in what is known of every argument's type
pub returns-clause-less : goal.returns-clause-less
returns-clause-less c = fewer-bits c.args.self.bits c.args.mutex c.well_formed.0.1.1.0.1
