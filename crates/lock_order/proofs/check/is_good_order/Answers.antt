use Rattle.std.proofs.Common.{◌≡◌, ℕ, length, arith, refl, subst}
use Rattle.lock_order.proofs.Places.{not-true}
use Rattle.lock_order.proofs.StepNestings.{nesting-small}
use Rattle.lock_order.proofs.Orders.{OrderSoFar, order-more, order-broken, order-read}
use Rattle.lock_order.proofs.check.is_good_order.Goals as goal

pub returns-then-not-is_free : goal.returns-then-not-is_free
returns-then-not-is_free c = (
  λ yes. absurd (not-true yes),
  λ good. absurd (order-broken c.args.deal.now.mutexes c.args.events.now c.nested_sets-nested.result
      c.nested_sets-nested.ensures c.args.order.now c.loop-mutex.mutex-index c.loop-mutex-test.true
      c.loop-mutex.left c.loop-mutex.invariant (λ free. not-true (c.if-not-is_free.ensures.1 free))
      good),
)

pub loop-mutex-preserved : goal.loop-mutex-preserved
loop-mutex-preserved c =
    order-more c.args.deal.now.mutexes c.args.events.now c.nested_sets-nested.result
    c.nested_sets-nested.ensures c.args.order.now c.loop-mutex.mutex-index c.loop-mutex-test.true
    c.loop-mutex.left c.loop-mutex.invariant c.without-left.result (c.if-not-is_free.ensures.0 refl)
    c.without-left.ensures.rest

pub returns : goal.returns
returns c =
    let done : c.loop-mutex.mutex-index ≡ length c.args.order.now = omega arith in
    let P : ℕ → Type 0 = λ n. OrderSoFar c.args.deal.now.mutexes c.args.events.now c.args.order.now
    n c.loop-mutex.left in
    order-read c.args.deal.now.mutexes c.args.events.now c.args.order.now c.loop-mutex.left
    (subst P done c.loop-mutex.invariant)
    (nesting-small c.args.deal.now c.args.events.now c.requires.in_range) c.lowest.result
    c.is_none.result c.lowest.ensures c.is_none.ensures
