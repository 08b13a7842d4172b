use Rattle.std.proofs.Common.{◌-◌}
use Rattle.policy_pick.proofs.Walks.{Passed}
use Rattle.policy_pick.proofs.walk.pick_by_rank.Given as goal

abbrev pub invariant-loop-below : goal.invariant-loop-below
invariant-loop-below l = Passed l.ranks.values l.chances (l.greatest - l.below)
