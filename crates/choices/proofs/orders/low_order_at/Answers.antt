-- The order is one of the other threads, followed by the thread.
use Rattle.std.proofs.Common.{◌<◌, ℕ, length, ap, sym, subst, ◌∙◌, arith}
use Rattle.choices.specs.Orders.{factorial}
use Rattle.choices.proofs.laws.OrderLists.{length-threads}
use Rattle.choices.proofs.Places.{others-left, low-there}
use Rattle.choices.proofs.orders.low_order_at.Goals as goal

pub remove-requires : goal.remove-requires
remove-requires c =
    omega (
      arith,
      ap length c.in_ok-others.ensures,
      length-threads c.args.threads,
      c.requires.low,
    )

pub arrange-requires-clause-few : goal.arrange-requires-clause-few
arrange-requires-clause-few c =
    let left = others-left c.args.threads c.args.low c.in_ok-others.others.items
    c.remove.new.self.items c.requires.low c.in_ok-others.ensures c.remove.ensures.items in
    omega (arith, left, c.requires.few)

pub arrange-requires-clause-place : goal.arrange-requires-clause-place
arrange-requires-clause-place c =
    let P : ℕ → Type 0 = λ n. c.args.place < factorial n in
    subst P (sym (others-left c.args.threads c.args.low c.in_ok-others.others.items
    c.remove.new.self.items c.requires.low c.in_ok-others.ensures c.remove.ensures.items))
    c.requires.place

pub returns : goal.returns
returns c =
    low-there c.args.threads c.args.low c.args.place c.in_ok-others.others.items
    c.remove.new.self.items c.in_ok-order.order.items c.from_vec.result c.in_ok-others.ensures
    c.remove.ensures.items c.in_ok-order.ensures
    (c.from_vec.ensures ∙ c.in_ok-push.ensures.items)
