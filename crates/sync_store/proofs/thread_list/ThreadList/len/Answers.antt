use Rattle.std.proofs.Common.{arith}
use Rattle.sync_store.proofs.ThreadLists.{length_few}
use Rattle.sync_store.proofs.thread_list.ThreadList.len.Goals as goal

pub returns-clause-few : goal.returns-clause-few
returns-clause-few c =
    let few = length_few c.self.inside.threads.items c.self.invariant.once c.self.invariant.below in
    grind arith
