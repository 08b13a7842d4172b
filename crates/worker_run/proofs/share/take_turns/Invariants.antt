use Rattle.std.proofs.Common.{◌≡◌, ℕ, length}
use Rattle.turn_lock.specs.Views.{view, HasSeat}
use Rattle.pct_ask.specs.Bodies.{Pending}
use Rattle.worker_run.specs.Served.{IsShare, GoesOn, NoneOwes}
use Rattle.worker_run.proofs.share.take_turns.Given as goal

abbrev pub invariant-loop : goal.invariant-loop
invariant-loop g l = record {
  of : HasSeat l.lock l.seat;
  share : (start : ℕ → Pending) → IsShare g.B.Body.pending start 0 l.fn.runners (view l.fn.seat)
      → IsShare g.B.Body.pending start 0 l.runners (view l.seat);
  on : GoesOn (view l.fn.seat) (view l.seat);
  long : length l.runners ≡ length l.fn.runners;
  posted : NoneOwes (view l.seat);
}
