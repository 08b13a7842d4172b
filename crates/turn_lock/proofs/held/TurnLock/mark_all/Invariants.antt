use Rattle.std.proofs.Common.{◌≡◌}
use Rattle.turn_lock.specs.Calls.{SameSeat}
use Rattle.turn_lock.proofs.held.TurnLock.mark_all.Given as goal

abbrev pub invariant-loop-word : goal.invariant-loop-word
invariant-loop-word g l = SameSeat l.initial.seat l.seat × (l.seat.me ≡ l.initial.seat.me)
