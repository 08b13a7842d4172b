-- The run has passed, or is shortened.
use Rattle.std.proofs.Common.{subst}
use Rattle.pct_ask.specs.declared.deal.Deal.{Deal}
use Rattle.kit_runs.specs.Runs.{IsFileOf}
use Rattle.kit_directives.proofs.finding.find_of.Goals as goal

pub returns-then-is : goal.returns-then-is
returns-then-is g c = record {
  made = c.in_ok-made.made;
  run =
      subst (λ (d : Deal). IsFileOf d c.args.trial.now.order.now c.args.points.now
      c.args.trial.now.limit
      c.in_ok-made.made) c.in_ok-own.ensures c.in_ok-made.ensures.run;
  passes = c.is.ensures.0 c.if-is.true;
  number = c.len-steps.ensures;
}
