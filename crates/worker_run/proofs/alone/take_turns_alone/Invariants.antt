use Rattle.std.proofs.Common.{◌≡◌, ℕ, length}
use Rattle.turn_book.specs.Told.{SameMaking}
use Rattle.turn_lock.specs.Rule.{first_view}
use Rattle.pct_ask.specs.Bodies.{Pending}
use Rattle.worker_run.specs.Served.{IsShare, GoesOn, NoneOwes}
use Rattle.worker_run.proofs.alone.take_turns_alone.Given as goal

abbrev pub invariant-loop : goal.invariant-loop
invariant-loop g l = record {
  of : SameMaking l.fn.book l.book;
  share : (start : ℕ → Pending) → IsShare g.B.Body.pending start 0 l.fn.runners
      (first_view l.fn.book)
      → IsShare g.B.Body.pending start 0 l.runners (first_view l.book);
  on : GoesOn (first_view l.fn.book) (first_view l.book);
  long : length l.runners ≡ length l.fn.runners;
  posted : NoneOwes (first_view l.book);
}
