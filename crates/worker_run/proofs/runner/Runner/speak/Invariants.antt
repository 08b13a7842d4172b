use Rattle.std.proofs.Common.{◌≡◌, true}
use Rattle.turn_lock.specs.Seen.{owes_of}
use Rattle.turn_lock.specs.Views.{view, HasSeat}
use Rattle.pct_ask.specs.Bodies.{Pending}
use Rattle.worker_run.specs.Served.{IsRunning, Moves}
use Rattle.worker_run.proofs.runner.Runner.speak.Given as goal

abbrev pub invariant-loop : goal.invariant-loop
invariant-loop g l = record {
  of : HasSeat l.lock l.seat;
  runs : (start : Pending) → IsRunning start (g.B.Body.pending l.fn.self.body) l.fn.self.answered
      l.thread (view l.fn.seat).seen → IsRunning start (g.B.Body.pending l.self.body)
      l.self.answered l.thread (view l.seat).seen;
  moves : Moves l.thread (view l.fn.seat) (view l.seat);
  owes : owes_of (view l.seat).seen l.thread ≡ true;
}
