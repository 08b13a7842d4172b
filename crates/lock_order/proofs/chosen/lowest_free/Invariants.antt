use Rattle.std.proofs.Common.{ℕ, ◌<◌}
use Rattle.lock_order.specs.MutexSets.{IsFreeIn}
use Rattle.lock_order.proofs.chosen.lowest_free.Given as goal

abbrev pub invariant-loop-mutex : goal.invariant-loop-mutex
invariant-loop-mutex l = (lower : ℕ) → lower < l.mutex → ¬ IsFreeIn l.nested l.remaining lower
