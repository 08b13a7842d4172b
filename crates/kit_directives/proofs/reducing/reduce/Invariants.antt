use Rattle.std.proofs.Common.{◌≤◌, length}
use Rattle.kit_directives.specs.Directed.{LeadsTo}
use Rattle.kit_directives.specs.Finding.{IsLeftOf}
use Rattle.kit_directives.proofs.reducing.reduce.Given as goal

-- what is left so far leads to the verdict
abbrev pub invariant-rounds : goal.invariant-rounds
invariant-rounds g l = record {
  few : length l.short.moments ≤ 7;
  leads : LeadsTo l.trial.deal.now l.trial.order.now l.trial.limit l.verdict
      l.short.moments l.short.steps;
  left : IsLeftOf l.fn.whole.moments l.short.moments;
}

abbrev pub decreases-rounds : goal.decreases-rounds
decreases-rounds g l = length l.short.moments
