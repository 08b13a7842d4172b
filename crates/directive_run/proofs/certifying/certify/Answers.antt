-- The limits are the numbers that they are made of.
use Rattle.std.specs.Prelude.{IfOk}
use Rattle.std.proofs.Common.{ℕ, subst}
use Rattle.script_body.specs.Bodies.{bodies_of}
use Rattle.directive_run.specs.Certifying.{Certifies}
use Rattle.directive_run.proofs.certifying.certify.Goals as goal

pub returns : goal.returns
returns g c = λ script of.
    let C : ℕ → ℕ → Type 0 = λ most cut. IfOk c.certify_by.result
    (Certifies c.args.deal.now (bodies_of script) c.args.directive.now most cut) in
    subst (C c.args.steps) c.new-limit.ensures
    (subst (λ most. C most c.new-limit.result) c.new-steps.ensures (c.certify_by.ensures script of))
