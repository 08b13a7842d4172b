use Rattle.std.proofs.Common.{ℕ, ◌≤◌, List, length}
use Rattle.policy_pick.specs.Plan.{SpeaksOf}
use Rattle.test_steps.proofs.picks.expect_picks.Given as goal

abbrev pub invariant-loop-place : goal.invariant-loop-place
invariant-loop-place g l =
    SpeaksOf (g.P.Policy.plan l.policy) 3
    × ((schedule : List ℕ)
    × g.P.Policy.stands l.policy schedule × (length schedule ≤ l.place))
