use Rattle.choices.proofs.MomentWalk.{kept-is}
use Rattle.choices.proofs.moments.is_kept.Goals as goal

pub returns-then-point-events : goal.returns-then-point-events
returns-then-point-events c =
    kept-is c.args.events.now c.args.point c.args.later.now c.is_among.result c.if-point-events.true
    c.is_among.ensures
