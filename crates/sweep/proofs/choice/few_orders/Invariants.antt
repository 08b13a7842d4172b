use Rattle.std.proofs.Common.{◌≡◌, ◌≤◌}
use Rattle.choices.specs.Orders.{factorial}
use Rattle.sweep.specs.Choices.{most_choices}
use Rattle.sweep.proofs.choice.few_orders.Given as goal

abbrev pub invariant-loop-fewer : goal.invariant-loop-fewer
invariant-loop-fewer l = record {
  is : l.count ≡ factorial l.fewer;
  few : l.count ≤ most_choices;
}
