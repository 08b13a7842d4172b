use Rattle.std.proofs.Common.{sym}
use Rattle.turn_lock.specs.Calls.{first_book}
use Rattle.turn_lock.specs.Views.{view}
use Rattle.worker_run.proofs.Plays.{closed-outcome, closed-played}
use Rattle.worker_run.proofs.run.finish.Goals as goal

pub played_of-requires-clause-over : goal.played_of-requires-clause-over
played_of-requires-clause-over g c = λ κs lives. (
  c.requires.played.1.outcome,
  closed-outcome (first_book c.args.lock) (view c.args.seat).seen c.close.result
      c.requires.played.0 c.requires.played.1 c.requires.of.1 c.close.ensures.seen
      c.close.ensures.lawful,
)

pub returns : goal.returns
returns g c = λ bodies played.
    closed-played (first_book c.args.lock) (view c.args.seat).seen c.close.result bodies played
    c.requires.of.1 c.close.ensures.seen c.close.ensures.lawful c.played_of.result.events
    c.played_of.result.outcome c.played_of.ensures.events (sym c.played_of.ensures.outcome)
