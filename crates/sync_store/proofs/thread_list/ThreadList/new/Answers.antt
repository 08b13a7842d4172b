use Rattle.std.proofs.Common.{arith}
use Rattle.sync_store.proofs.ThreadLists.{emptied}
use Rattle.sync_store.proofs.thread_list.ThreadList.new.Goals as goal

pub invariant_of-result : goal.invariant_of-result
invariant_of-result c =
    let list = c.in_ok-with_capacity.field-0 in
    emptied list.items _ c.in_ok-with_capacity.ensures.items
    (omega (arith, c.in_ok-with_capacity.ensures.exact))
