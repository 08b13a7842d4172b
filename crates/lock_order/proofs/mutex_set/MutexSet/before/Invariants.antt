use Rattle.std.proofs.Common.{◌<◌}
use Rattle.lock_order.specs.MutexSets.{HasThose}
use Rattle.lock_order.proofs.mutex_set.MutexSet.before.Given as goal

abbrev pub invariant-loop-mutex : goal.invariant-loop-mutex
invariant-loop-mutex l = HasThose l.set (λ mutex. mutex < l.mutex)
