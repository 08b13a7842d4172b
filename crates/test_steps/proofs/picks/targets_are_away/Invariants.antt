use Rattle.std.proofs.Common.{ℕ, ◌<◌}
use Rattle.policy_pick.specs.Choice.{HasAwayTarget, chance_of}
use Rattle.test_steps.proofs.picks.targets_are_away.Given as goal

abbrev pub invariant-loop-chance : goal.invariant-loop-chance
invariant-loop-chance l =
    (earlier : ℕ) → earlier < l.chance-index
    → HasAwayTarget l.chances (chance_of l.chances earlier)
