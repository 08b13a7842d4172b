use Rattle.std.proofs.Common.{List, ℕ, subst, sym, refl}
use Rattle.std.specs.List.{Contains}
use Rattle.lock_order.proofs.Places.{not-true}
use Rattle.lock_order.proofs.Walks.{walk-more, walk-repeats, held-is}
use Rattle.lock_order.proofs.chosen.walk.Goals as goal

pub loop-remaining-preserved : goal.loop-remaining-preserved
loop-remaining-preserved c =
    let nested = c.args.nested.now in
    let remaining = c.args.remaining in
    let mutex = c.loop-remaining.mutex in
    let next = held-is nested remaining mutex c.lowest_common.result c.unwrap-mutex.result
    c.unwrap-mutex.ensures c.lowest_common.ensures in
    walk-more nested remaining c.args.first c.loop-remaining.walk.items c.loop-remaining.fresh mutex
    c.loop-remaining.invariant c.push.new.self.items c.without-fresh.result
    c.unwrap-mutex.result c.in_ok-push.ensures.items (c.loop-remaining-test.ensures.0 refl)
    c.without-fresh.ensures.rest next

pub place_of-back-requires : goal.place_of-back-requires
place_of-back-requires c =
    let P : List ℕ → Type 0 = λ xs. Contains xs c.loop-remaining.mutex in
    subst P (sym c.deref.ensures.value)
    (walk-repeats c.args.nested.now c.args.remaining c.args.first c.loop-remaining.walk.items
    c.loop-remaining.fresh c.loop-remaining.mutex c.loop-remaining.invariant
    (λ has. not-true (c.loop-remaining-test.ensures.1 has)))
