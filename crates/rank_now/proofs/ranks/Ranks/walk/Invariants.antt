use Rattle.std.proofs.Common.{◌≡◌, ◌-◌, ◌≤◌, nat_lt}
use Rattle.std.specs.List.{count_by}
use Rattle.rank_now.proofs.ranks.Ranks.walk.Given as goal

abbrev pub invariant-loop-below : goal.invariant-loop-below
invariant-loop-below l =
    (l.passed ≤ l.place) × (l.passed ≡ count_by (nat_lt (l.greatest - l.below)) l.self.values)
