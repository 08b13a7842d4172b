use Rattle.std.proofs.Common.{◌≡◌, ◌++◌, take, map}
use Rattle.std.specs.Prelude.{codes}
use Rattle.pct_ask.specs.TraceText.{name_at}
use Rattle.trace_text.specs.Spaced.{behind_spaces}
use Rattle.pct_top.proofs.commands.locks.push_order.Given as goal

abbrev pub invariant-loop-mutex : goal.invariant-loop-mutex
invariant-loop-mutex l =
    l.out.items ≡ l.fn.out.items ++ (codes "order"
    ++ behind_spaces (map (name_at l.names.mutexes) (take l.mutex-index l.mutexes)))
