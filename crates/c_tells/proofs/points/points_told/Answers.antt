use Rattle.std.proofs.Common.{arith, ap, length}
use Rattle.c_tells.proofs.points.points_told.Goals as goal

pub points_of-requires : goal.points_of-requires
points_of-requires c =
    omega (arith, c.in_ok-events.ensures.few, ap length c.as_slice.ensures)
