use Rattle.std.proofs.Common.{◌≡◌, ℕ, ◌<◌, false}
use Rattle.policy_pick.specs.Choice.{chance_of, is_open}
use Rattle.policy_pick.proofs.walk.pick_by_number.Given as goal

abbrev pub invariant-loop-thread : goal.invariant-loop-thread
invariant-loop-thread l = (other : ℕ) → other < l.thread
    → is_open (chance_of l.chances other) ≡ false
