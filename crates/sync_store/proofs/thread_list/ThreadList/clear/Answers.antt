use Rattle.std.proofs.Common.{arith}
use Rattle.sync_store.proofs.ThreadLists.{emptied}
use Rattle.sync_store.proofs.thread_list.ThreadList.clear.Goals as goal

pub invariant_of-self : goal.invariant_of-self
invariant_of-self c =
    emptied c.clear.new.self.items _ c.clear.ensures.items
    (omega (arith, c.clear.ensures.capacity, c.self.invariant.reserved))
