use Rattle.turn_lock.specs.Views.{HasSeat}
use Rattle.test_runs.proofs.turns.play.Given as goal

abbrev pub invariant-loop : goal.invariant-loop
invariant-loop g l = HasSeat l.fn.lock l.seat
