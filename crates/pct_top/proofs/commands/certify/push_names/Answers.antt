use Rattle.pct_ask.specs.VerdictText.{thread_name}
use Rattle.pct_top.proofs.Spaced.{all-spaced}
use Rattle.pct_top.proofs.commands.certify.push_names.Goals as goal

pub returns : goal.returns
returns c =
    all-spaced (thread_name c.args.names.now) c.args.out.now.items c.loop-thread.out.items
    c.args.order.now c.loop-thread.thread-index c.loop-thread-test.false c.loop-thread.invariant
