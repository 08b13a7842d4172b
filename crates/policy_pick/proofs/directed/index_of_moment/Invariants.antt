use Rattle.std.proofs.Common.{◌≡◌, ◌&&◌, eqb}
use Rattle.rank_now.specs.Positions.{greatest_where, passes_at}
use Rattle.rank_now.specs.declared.moment.Moment.{Moment}
use Rattle.policy_pick.proofs.directed.index_of_moment.Given as goal

abbrev pub invariant-loop-place : goal.invariant-loop-place
invariant-loop-place l =
    l.index ≡ greatest_where (passes_at
    (λ (e : Moment). eqb e.thread l.thread && eqb e.number l.number) l.moments) l.place
