use Rattle.std.specs.Prelude.{codes}
use Rattle.pct_ask.specs.TraceText.{name_at}
use Rattle.pct_top.proofs.Spaced.{line-of-all}
use Rattle.pct_top.proofs.commands.locks.push_order.Goals as goal

pub returns : goal.returns
returns c =
    line-of-all (name_at c.args.names.now.mutexes) c.args.out.now.items (codes "order")
    c.loop-mutex.out.items c.push.new.self.items c.args.mutexes.now c.loop-mutex.mutex-index
    c.loop-mutex-test.false c.loop-mutex.invariant c.in_ok-push.ensures.items
