use Rattle.std.proofs.Common.{◌≡◌, ◌++◌, drop}
use Rattle.std.specs.Option.{option_map}
use Rattle.pct_top.specs.Ordered.{threads_named}
use Rattle.pct_top.proofs.order.threads_of.Given as goal

-- the threads so far and those of the items left are those of all
abbrev pub invariant-loop-item : goal.invariant-loop-item
invariant-loop-item l =
    option_map (λ ts. l.threads ++ ts) (threads_named l.names (drop l.item-index l.items))
    ≡ threads_named l.names l.items
