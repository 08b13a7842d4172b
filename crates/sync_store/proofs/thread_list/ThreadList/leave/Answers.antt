use Rattle.std.proofs.Common.{◌≡◌, not, nat_eq, arith, rules}
use Rattle.std.proofs.lemmas.Fn.{filter_same}
use Rattle.sync_store.specs.Effect.{list_without}
use Rattle.sync_store.proofs.ThreadLists.{departed}
use Rattle.sync_store.proofs.thread_list.ThreadList.leave.Goals as goal

pub invariant_of-self : goal.invariant_of-self
invariant_of-self c =
    let list = c.self.inside in
    let kept : c.retain.new.self.items ≡ list_without c.args.thread list.threads.items =
    filter_same _ (λ u. not (nat_eq c.args.thread u)) _ (λ x b f' k. search rules) _ _
    c.retain.ensures.filtered in
    departed list.threads.items c.retain.new.self.items _ _ list.present c.args.thread
    c.self.invariant c.self.told c.requires kept c.retain.ensures.capacity

pub returns : goal.returns
returns c =
    let kept : c.retain.new.self.items ≡ list_without c.args.thread c.self.inside.threads.items =
    filter_same _ (λ u. not (nat_eq c.args.thread u)) _ (λ x b f' k. search rules) _ _
    c.retain.ensures.filtered in
    let same = c.self.view_is in
    grind arith
