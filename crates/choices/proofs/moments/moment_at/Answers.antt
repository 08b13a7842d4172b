use Rattle.choices.proofs.MomentWalk.{moment-is}
use Rattle.choices.proofs.moments.moment_at.Goals as goal

pub returns : goal.returns
returns c =
    moment-is c.args.events.now c.args.step _ c.own_steps-number.result c.requires.some
    c.requires.within c.own_steps-number.ensures
