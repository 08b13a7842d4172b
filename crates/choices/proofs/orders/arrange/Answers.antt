-- Each thread stands at the place that its block tells, from the last to the first.
use Rattle.std.proofs.Common.{◌≡◌, ◌-◌, suc, sym, ◌∙◌, arith, length, vec_len}
use Rattle.choices.proofs.laws.Factorials.{some-orders}
use Rattle.choices.proofs.Places.{back-made, block-within, rest-within, order-there}
use Rattle.choices.proofs.Places.{some-left, none-left}
use Rattle.choices.proofs.orders.arrange.Goals as goal

pub nonzero_div-rest : goal.nonzero_div-rest
nonzero_div-rest c =
    omega (arith, c.order_count-block.ensures, some-orders (c.len-others.result - 1))

pub overflow_sub-others-in-threads : goal.overflow_sub-others-in-threads
overflow_sub-others-in-threads c =
    let some = some-left (vec_len c.threads.left) (sym c.is_empty.ensures ∙ c.threads-test.true) in
    let long : length c.threads.left.items ≡ suc (c.len-others.result - 1) =
    omega (arith, some, c.len-others.ensures) in
    block-within c.threads.left.items (c.len-others.result - 1) c.threads.rest
    c.order_count-block.result long c.threads.invariant.place c.order_count-block.ensures

pub threads-preserved : goal.threads-preserved
threads-preserved c =
    let left = c.threads.left.items in
    let n = c.len-others.result - 1 in
    let some = some-left (vec_len c.threads.left) (sym c.is_empty.ensures ∙ c.threads-test.true) in
    let long : length left ≡ suc n = omega (arith, some, c.len-others.ensures) in
    let fewer : length c.remove-thread.new.self.items ≡ n =
    omega (arith, c.remove-thread.ensures.len, long) in
    record {
      made =
          back-made left c.remove-thread.new.self.items c.threads.order.items _ _ n c.threads.rest
          c.order_count-block.result c.remove-thread.result long c.threads.invariant.place
          c.order_count-block.ensures c.remove-thread.ensures.value c.remove-thread.ensures.items
          c.in_ok-push.ensures.items c.threads.invariant.made;
      place =
          rest-within c.remove-thread.new.self.items n c.threads.rest c.order_count-block.result
          fewer c.order_count-block.ensures;
      few = omega (arith, fewer, long, c.threads.invariant.few);
    }

pub returns : goal.returns
returns c =
    let none = none-left (vec_len c.threads.left) (sym c.is_empty.ensures ∙ c.threads-test.false) in
    let gone : length c.threads.left.items ≡ 0 = omega (arith, none) in
    order-there c.args.threads.items c.threads.left.items c.threads.order.items _ c.args.place
    c.threads.rest c.requires.place gone c.threads.invariant.made c.reverse.ensures.items
