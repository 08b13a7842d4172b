use Rattle.std.proofs.Common.{◌≡◌, false}
use Rattle.turn_lock.specs.Seen.{owes_of}
use Rattle.turn_lock.specs.Views.{view, HasSeat}
use Rattle.pct_ask.specs.Bodies.{Pending}
use Rattle.worker_run.specs.Served.{IsRunning, Moves}
use Rattle.worker_run.proofs.tasks.serve.Given as goal

abbrev pub invariant-loop : goal.invariant-loop
invariant-loop g l = record {
  of : HasSeat l.lock l.seat;
  runs : (start : Pending) → IsRunning start (g.B.Body.pending l.fn.runner.body)
      l.fn.runner.answered l.thread (view l.fn.seat).seen
      → IsRunning start (g.B.Body.pending l.runner.body) l.runner.answered l.thread
      (view l.seat).seen;
  moves : Moves l.thread (view l.fn.seat) (view l.seat);
  posted : owes_of (view l.seat).seen l.thread ≡ false;
}
