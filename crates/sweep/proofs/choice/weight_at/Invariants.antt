use Rattle.std.proofs.Common.{◌≡◌, ◌-◌, ◌*◌, ◌^◌, ◌<◌, ◌≤◌}
use Rattle.sweep.specs.Weights.{weight}
use Rattle.sweep.proofs.Places.{digits}
use Rattle.sweep.proofs.choice.weight_at.Given as goal

-- the weight of the points so far, and those that are left by the place among their lists
abbrev pub invariant-loop-point : goal.invariant-loop-point
invariant-loop-point l = record {
  made : l.weight * weight l.steps l.length (digits l.steps (l.points - l._point) l.rest)
      ≡ weight l.steps l.length (digits l.steps l.points l.place);
  few : l.weight ≤ l.steps ^ l._point;
  block : l.block ≡ l.steps ^ (l.points - l._point);
  low : l.rest < l.steps ^ (l.points - l._point);
}
