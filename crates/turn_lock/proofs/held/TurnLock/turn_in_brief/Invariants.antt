use Rattle.turn_lock.specs.Views.{view, HasSeat}
use Rattle.turn_lock.specs.Hands.{Stays}
use Rattle.turn_lock.proofs.held.TurnLock.turn_in_brief.Given as goal

abbrev pub invariant-loop : goal.invariant-loop
invariant-loop g l = HasSeat l.fn.self l.seat × Stays (view l.initial.seat) (view l.seat)
