use Rattle.std.proofs.Common.{refl}
use Rattle.turn_lock.specs.Views.{view}
use Rattle.body_kit.specs.Asking.{end_post}
use Rattle.body_kit.proofs.Answered.{posted-end, end-not}
use Rattle.body_kit.proofs.asking.end_once.Goals as goal

pub returns-clause-ended : goal.returns-clause-ended
returns-clause-ended g c =
    let v = view c.args.seat.now in
    let w = view c.post_wait.new.seat in
    let turn = c.post_wait.result in
    let took = c.post_wait.ensures.turn.took in
    posted-end v w c.args.thread c.requires.serves (end_post c.args.line) c.args.line turn refl
    (end-not v w c.args.thread c.requires.serves c.requires.owes c.args.line turn took) took
