use Rattle.std.proofs.Common.{◌≡◌, true}
use Rattle.turn_lock.specs.Seen.{owes_of}
use Rattle.turn_book.specs.Told.{SameMaking}
use Rattle.turn_lock.specs.Rule.{first_view}
use Rattle.pct_ask.specs.Bodies.{Pending}
use Rattle.worker_run.specs.Served.{IsRunning, Moves}
use Rattle.worker_run.proofs.runner.Runner.speak_alone.Given as goal

abbrev pub invariant-loop : goal.invariant-loop
invariant-loop g l = record {
  of : SameMaking l.fn.book l.book;
  runs : (start : Pending) → IsRunning start (g.B.Body.pending l.fn.self.body) l.fn.self.answered
      l.thread (first_view l.fn.book).seen → IsRunning start (g.B.Body.pending l.self.body)
      l.self.answered l.thread (first_view l.book).seen;
  moves : Moves l.thread (first_view l.fn.book) (first_view l.book);
  owes : owes_of (first_view l.book).seen l.thread ≡ true;
}
