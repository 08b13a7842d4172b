use Rattle.std.specs.Prelude.{codes, decimal}
use Rattle.pct_top.proofs.Spaced.{line-of-all}
use Rattle.pct_top.proofs.commands.certify.push_points.Goals as goal

pub returns : goal.returns
returns c =
    line-of-all decimal c.args.out.now.items (codes "points") c.loop-point.out.items
    c.push.new.self.items c.args.points.now c.loop-point.point-index c.loop-point-test.false
    c.loop-point.invariant c.in_ok-push.ensures.items
