use Rattle.std.proofs.Common.{◌<◌, ℕ}
use Rattle.turn_lock.specs.Rule.{Serves}
use Rattle.turn_lock.specs.Views.{view}
use Rattle.test_runs.proofs.turns.serves_all.Given as goal

abbrev pub invariant-loop-thread : goal.invariant-loop-thread
invariant-loop-thread l = (t : ℕ) → t < l.thread → Serves (view l.seat) t
