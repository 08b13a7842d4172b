use Rattle.turn_lock.specs.Views.{view, HasSeat}
use Rattle.worker_run.proofs.Shares.{IsBegun}
use Rattle.worker_run.proofs.share.begin.Given as goal

-- the threads below this one have posted, and the others owe their first posts
abbrev pub invariant-loop-index : goal.invariant-loop-index
invariant-loop-index g l = record {
  of : HasSeat l.lock l.seat;
  begun : IsBegun g.B.Body.pending l.fn.runners (view l.fn.seat) l.index l.runners (view l.seat);
}
