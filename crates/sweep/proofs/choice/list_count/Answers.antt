-- The lists of points are no more than all choices, which fit.
use Rattle.std.proofs.Common.{◌+◌, ◌*◌, ap, arith}
use Rattle.sweep.proofs.Places.{power-next, more-power}
use Rattle.sweep.proofs.choice.list_count.Goals as goal

pub overflow_mul-count : goal.overflow_mul-count
overflow_mul-count c =
    let k = c.args.steps in
    let i = c.loop-point._point in
    omega (
      arith,
      ap (λ n. n * k) c.loop-point.invariant,
      power-next k i,
      more-power k (i + 1) c.args.points c.requires.some (omega (arith, c.loop-point-test.true)),
      c.requires.few,
    )
