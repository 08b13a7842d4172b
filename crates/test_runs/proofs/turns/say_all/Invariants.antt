use Rattle.turn_lock.specs.Views.{HasSeat}
use Rattle.test_runs.proofs.turns.say_all.Given as goal

abbrev pub invariant-loop-thread : goal.invariant-loop-thread
invariant-loop-thread g l = HasSeat l.fn.lock l.seat
