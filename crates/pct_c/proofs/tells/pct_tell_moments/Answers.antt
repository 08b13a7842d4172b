use Rattle.c_tells.specs.Moments.{AreMomentsOf}
use Rattle.pct_c.proofs.BufferLaws.{puts}
use Rattle.pct_c.proofs.tells.pct_tell_moments.Goals as goal

pub returns : goal.returns
returns c =
    puts (AreMomentsOf c.args.steps.now c.args.points.now) c.moments_told.result c.put.result.status
    c.put.result.count
    c.args.moments.now c.put.new.buffer c.moments_told.ensures c.put.ensures
