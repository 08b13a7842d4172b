use Rattle.body_kit.specs.declared.error.KitError.TheVariants.{WrongCount, NotAnOrder}
use Rattle.body_kit.proofs.Refusals.{handed-on}
use Rattle.body_kit.proofs.kit.Kit.open.Goals as goal

pub returns-in_err-pct-clause-wrong_count : goal.returns-in_err-pct-clause-wrong_count
returns-in_err-pct-clause-wrong_count c =
    λ had named. handed-on c.from_residual.result c.in_err-pct.field-0.0 (WrongCount had named)
    c.from_residual.ensures.1 (c.in_err-pct.ensures.wrong_count had named)

pub returns-in_err-pct-clause-not_an_order : goal.returns-in_err-pct-clause-not_an_order
returns-in_err-pct-clause-not_an_order c =
    λ at. handed-on c.from_residual.result c.in_err-pct.field-0.0 (NotAnOrder at)
    c.from_residual.ensures.1 (c.in_err-pct.ensures.not_an_order at)
