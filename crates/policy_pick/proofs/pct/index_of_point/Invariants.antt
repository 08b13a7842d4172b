use Rattle.std.proofs.Common.{◌≡◌, eqb}
use Rattle.rank_now.specs.Positions.{greatest_where, passes_at}
use Rattle.policy_pick.proofs.pct.index_of_point.Given as goal

abbrev pub invariant-loop-place : goal.invariant-loop-place
invariant-loop-place l =
    l.index ≡ greatest_where (passes_at (λ point. eqb point l.step) l.points) l.place
