-- The threads that a seat serves are its book's.
use Rattle.std.proofs.Common.{ℕ, ◌<◌}
use Rattle.policy_pick.specs.declared.policy.Policy.{Ghosts}
use Rattle.turn_lock.specs.Rule.{Serves}
use Rattle.turn_lock.specs.Views.{view}
use Rattle.turn_lock.specs.declared.seat.Seat.{Seat}
use Rattle.turn_lock.proofs.Seating.{to-flag}

-- a thread that a seat serves is one of the book's
pub inside : {P : Type 0} {policy : Ghosts P} (seat : Seat P policy) (t : ℕ) → Serves (view seat) t
    → t < (view seat).seen.deal.threads
inside seat t h = seat.threads t (to-flag seat t h)
