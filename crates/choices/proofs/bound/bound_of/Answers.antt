-- A power more, which fits.
use Rattle.std.proofs.Common.{◌*◌, ◌^◌, ◌<◌, ℕ, sym, subst, arith, ◌∙◌, ap}
use Rattle.choices.proofs.Bounds.{bound-small, bound-more}
use Rattle.choices.proofs.bound.bound_of.Goals as goal

pub overflow_mul-bound : goal.overflow_mul-bound
overflow_mul-bound c =
    let small = bound-small c.args.threads c.args.steps c.args.points c.loop-point._point
    c.loop-point.bound c.requires.few_threads c.requires.few_steps c.requires.few_points
    c.loop-point-test.true c.loop-point.invariant in
    let P : ℕ → Type 0 = λ s. c.loop-point.bound * s < 2 ^ 128 in
    let fits = subst P (sym c.from-bound-in-loop-point.ensures) small in
    omega (arith, fits)

pub loop-point-preserved : goal.loop-point-preserved
loop-point-preserved c =
    ap (λ s. c.loop-point.bound * s) c.from-bound-in-loop-point.ensures
    ∙ bound-more c.args.threads c.args.steps c.loop-point._point c.loop-point.bound
    c.loop-point.invariant
