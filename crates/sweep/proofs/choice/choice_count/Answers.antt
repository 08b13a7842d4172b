-- Where the orders with some first points are too many, all choices are.
use Rattle.std.proofs.Common.{◌≡◌, ◌+◌, ◌*◌, ap, sym, ◌∙◌, arith}
use Rattle.sweep.specs.Choices.{choice_count}
use Rattle.sweep.proofs.Places.{too-many, orders-fit, fewer-choices, choices-next}
use Rattle.sweep.proofs.choice.choice_count.Goals as goal

pub returns-in_err-count : goal.returns-in_err-count
returns-in_err-count c =
    too-many (choice_count c.args.threads c.args.steps c.args.points) c.from_residual.result
    c.from_residual.ensures (omega (
      arith,
      c.in_err-count.ensures,
      orders-fit c.args.threads c.args.steps c.args.points c.requires,
    ))

pub returns-in_err-count-2 : goal.returns-in_err-count-2
returns-in_err-count-2 c =
    let k = c.args.steps in
    let i = c.loop-point._point in
    too-many (choice_count c.args.threads k c.args.points) c.from_residual-in_err-count-2.result
    c.from_residual-in_err-count-2.ensures (omega (
      arith,
      c.in_err-count-2.ensures,
      ap (λ n. n * k) c.loop-point.invariant.is,
      choices-next c.args.threads k i,
      fewer-choices c.args.threads k (i + 1) c.args.points c.requires
          (omega (arith, c.loop-point-test.true)),
    ))

pub loop-point-preserved : goal.loop-point-preserved
loop-point-preserved c =
    let told = c.in_ok-count-2.ensures in
    let k = c.args.steps in
    let i = c.loop-point._point in
    let next : c.loop-point.count * k ≡ choice_count c.args.threads k (i + 1) =
    ap (λ n. n * k) c.loop-point.invariant.is ∙ sym (choices-next c.args.threads k i) in
    record { is = told.0 ∙ next; few = omega (arith, told.0, told.1) }
