use Rattle.lock_order.proofs.Bits.{lowest-common}
use Rattle.lock_order.proofs.mutex_set.MutexSet.lowest_common.Goals as goal

pub returns : goal.returns
returns c =
    lowest-common c.args.self.bits c.args.other.bits c.lowest_bit.result c.lowest_bit.ensures
