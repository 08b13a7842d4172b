use Rattle.std.proofs.Common.{◌≡◌, ◌++◌, take, map}
use Rattle.std.specs.Prelude.{codes}
use Rattle.pct_ask.specs.VerdictText.{thread_name}
use Rattle.trace_text.specs.Spaced.{behind_spaces}
use Rattle.trace_text.proofs.writing.push_order.Given as goal

abbrev pub invariant-loop-thread : goal.invariant-loop-thread
invariant-loop-thread l =
    l.out.items ≡ l.fn.out.items ++ (codes "order"
    ++ behind_spaces (map (thread_name l.names) (take l.thread-index l.order)))
