use Rattle.std.proofs.Common.{◌≡◌, ◌≤◌, ◌-◌, length, take}
use Rattle.trace_text.proofs.compared.agreed.Given as goal

-- the first steps of both are the same
abbrev pub invariant-loop-many : goal.invariant-loop-many
invariant-loop-many l = record {
  front : take l.many l.made ≡ take l.many l.told;
  made_within : l.many ≤ length l.made;
  told_within : l.many ≤ length l.told;
}

abbrev pub decreases-loop-many : goal.decreases-loop-many
decreases-loop-many l = length l.made - l.many
