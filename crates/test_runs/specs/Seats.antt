-- The seats of threads that count, before and after they post (this project).
use Rattle.std.specs.Prelude.{◌≡◌, ◌≤◌, ℕ, true, length}
use Rattle.policy_pick.specs.declared.policy.Policy.{Ghosts}
use Rattle.turn_lock.specs.Seen.{owes_of}
use Rattle.turn_lock.specs.Rule.{Serves}
use Rattle.turn_lock.specs.Views.{view, HasSeat}
use Rattle.turn_lock.specs.declared.held.TurnLock.{TurnLock}
use Rattle.turn_lock.specs.declared.seat.Seat.{Seat}

-- the lock's seat serves the thread, which owes a post, and there is a number to be counted up
abbrev pub IsReadyFor : {P : Type 0} {policy : Ghosts P} → TurnLock P → Seat P policy → ℕ → Type 0
IsReadyFor lock seat t =
    HasSeat lock seat × Serves (view seat) t × (owes_of (view seat).seen t ≡ true)
    × (1 ≤ length (view seat).seen.deal.vars)

-- the lock's seat serves the thread, which has ended
abbrev pub IsBackFrom : {P : Type 0} {policy : Ghosts P} → TurnLock P → Seat P policy → ℕ → Type 0
IsBackFrom lock seat t = HasSeat lock seat × Serves (view seat) t
