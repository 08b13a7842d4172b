use Rattle.lock_order.proofs.Orders.{taking-more, taking-last}
use Rattle.lock_order.proofs.chosen.take_out.Goals as goal

pub loop-mutex-preserved : goal.loop-mutex-preserved
loop-mutex-preserved c =
    taking-more c.args.mutexes c.args.nested.now c.loop-mutex.out.items c.loop-mutex.remaining
    c.loop-mutex.invariant c.in-Some.mutex c.push.new.self.items c.without-remaining.result
    c.in_ok-push.ensures.items c.in-Some.ensures c.without-remaining.ensures.rest

pub returns-clause-taken_out : goal.returns-clause-taken_out
returns-clause-taken_out c =
    taking-last c.args.mutexes c.args.nested.now c.loop-mutex.out.items c.loop-mutex.remaining
    c.loop-mutex.invariant c.in_default.ensures
