use Rattle.std.proofs.Common.{◌<◌, ℕ}
use Rattle.turn_lock.specs.Rule.{HasFlag}
use Rattle.turn_lock.proofs.flags.lowest.Given as goal

abbrev pub invariant-loop-thread : goal.invariant-loop-thread
invariant-loop-thread l = (t : ℕ) → t < l.thread → ¬ HasFlag l.threads t
