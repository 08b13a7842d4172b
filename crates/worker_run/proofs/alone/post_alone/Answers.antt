use Rattle.std.proofs.Common.{Some}
use Rattle.worker_run.proofs.LoneBooks.{lone-took}
use Rattle.worker_run.proofs.alone.post_alone.Goals as goal

pub returns : goal.returns
returns g c =
    let told = c.post_and_turn.ensures in
    record {
      turn = record {
        turn = told.turn;
        brief = told.brief;
        said = lone-took c.args.book.now c.args.thread (Some c.args.post) told.turn
            c.post_and_turn.new.book c.trace-steps.ensures.lawful c.requires.thread told.said;
      };
    }
