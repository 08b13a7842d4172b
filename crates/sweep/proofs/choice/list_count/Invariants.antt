use Rattle.std.proofs.Common.{◌≡◌, ◌^◌}
use Rattle.sweep.proofs.choice.list_count.Given as goal

abbrev pub invariant-loop-point : goal.invariant-loop-point
invariant-loop-point l = l.count ≡ l.steps ^ l._point
