use Rattle.std.proofs.Common.{◌≡◌, ◌++◌, take, map}
use Rattle.pct_ask.specs.VerdictText.{thread_name}
use Rattle.report_text.specs.SweepText.{spaced}
use Rattle.report_text.proofs.sweep_as_text.push_names.Given as goal

abbrev pub invariant-loop-thread : goal.invariant-loop-thread
invariant-loop-thread l =
    l.out.items
    ≡ l.fn.out.items ++ spaced (map (thread_name l.names) (take l.thread-index l.order))
