use Rattle.std.proofs.Common.{◌≡◌, ◌≤◌}
use Rattle.sweep.specs.Choices.{choice_count, most_choices}
use Rattle.sweep.proofs.choice.choice_count.Given as goal

abbrev pub invariant-loop-point : goal.invariant-loop-point
invariant-loop-point l = record {
  is : l.count ≡ choice_count l.threads l.steps l._point;
  few : l.count ≤ most_choices;
}
