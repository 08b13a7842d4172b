use Rattle.std.proofs.Common.{◌≡◌, ◌<◌, ℕ, true, false}
use Rattle.turn_lock.specs.Seen.{owes_of}
use Rattle.turn_lock.specs.Rule.{Serves}
use Rattle.turn_lock.specs.Views.{view}
use Rattle.test_runs.proofs.turns.waits.Given as goal

abbrev pub invariant-loop-thread : goal.invariant-loop-thread
invariant-loop-thread l =
    (l.some ≡ true → (t : ℕ) × Serves (view l.seat) t)
    × ((t : ℕ) → t < l.thread → Serves (view l.seat) t → owes_of (view l.seat).seen t ≡ false)
