use Rattle.std.proofs.Common.{◌≡◌, ◌<◌, ◌∙◌, sym, false, length, arith}
use Rattle.sync_store.specs.Store.{is_on}
use Rattle.sync_store.proofs.ThreadLists.{added, length_room}
use Rattle.sync_store.proofs.thread_list.ThreadList.add.Goals as goal

pub push_reserved-requires : goal.push_reserved-requires
push_reserved-requires c =
    let threads = c.self.inside.threads.items in
    let off : is_on c.args.thread threads ≡ false =
    sym (c.self.invariant.marked c.args.thread c.requires) ∙ c.if-not-self-thread.true in
    let few : length threads < 64 = length_room c.args.thread threads c.self.invariant.once
    c.self.invariant.below off c.requires in
    let room = c.self.invariant.reserved in
    grind arith

pub invariant_of-self : goal.invariant_of-self
invariant_of-self c =
    let list = c.self.inside in
    added list.threads.items c.push_reserved.new.self.items _ _ list.present c.args.thread
    c.self.invariant c.self.told c.requires c.if-not-self-thread.true
    c.push_reserved.ensures.items c.push_reserved.ensures.capacity
