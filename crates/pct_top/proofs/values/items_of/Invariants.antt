use Rattle.std.proofs.Common.{◌≡◌, map}
use Rattle.pct_top.proofs.values.items_of.Given as goal

abbrev pub invariant-loop-item : goal.invariant-loop-item
invariant-loop-item l = l.items ≡ map (λ item. item.now) l.yielded
