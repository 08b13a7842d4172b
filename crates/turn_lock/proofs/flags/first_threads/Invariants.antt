use Rattle.std.proofs.Common.{◌≡◌}
use Rattle.turn_lock.specs.Rule.{first_threads}
use Rattle.turn_lock.proofs.flags.first_threads.Given as goal

abbrev pub invariant-loop-thread : goal.invariant-loop-thread
invariant-loop-thread l = l.first ≡ first_threads l.thread
