use Rattle.std.proofs.Common.{◌≡◌, ◌-◌, ◌^◌, ◌<◌, ◌++◌}
use Rattle.sweep.proofs.Places.{digits}
use Rattle.sweep.proofs.choice.points_at.Given as goal

-- the numbers so far, and those that are left by the place among their lists
abbrev pub invariant-loop-point : goal.invariant-loop-point
invariant-loop-point l = record {
  made : l.list ++ digits l.steps (l.points - l._point) l.rest ≡ digits l.steps l.points l.place;
  block : l.block ≡ l.steps ^ (l.points - l._point);
  low : l.rest < l.steps ^ (l.points - l._point);
}
