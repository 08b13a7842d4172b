use Rattle.std.proofs.Common.{◌≡◌, ◌<◌, ◌≤◌, ℕ}
use Rattle.turn_lock.specs.Rule.{Serves}
use Rattle.turn_lock.specs.Views.{view, HasSeat}
use Rattle.worker_run.specs.Served.{IsWhole}
use Rattle.worker_run.proofs.lent.split_all.Given as goal

abbrev pub invariant-loop-thread : goal.invariant-loop-thread
invariant-loop-thread g l = record {
  of : HasSeat l.lock l.seat × HasSeat l.lock l.all;
  left : (view l.seat).seen ≡ (view l.fn.seat).seen;
  rest : (t : ℕ) → l.thread ≤ t → t < l.threads → Serves (view l.seat) t;
  right : IsWhole l.thread (view l.fn.seat).seen (view l.all);
}
