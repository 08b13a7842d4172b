use Rattle.turn_book.specs.Told.{SameMaking}
use Rattle.turn_lock.specs.Rule.{first_view}
use Rattle.worker_run.proofs.Shares.{IsBegun}
use Rattle.worker_run.proofs.alone.begin_alone.Given as goal

-- the threads below this one have posted, and the others owe their first posts
abbrev pub invariant-loop-index : goal.invariant-loop-index
invariant-loop-index g l = record {
  of : SameMaking l.fn.book l.book;
  begun : IsBegun g.B.Body.pending l.fn.runners (first_view l.fn.book) l.index l.runners
      (first_view l.book);
}
