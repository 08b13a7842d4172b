use Rattle.std.proofs.Common.{◌≡◌, length}
use Rattle.test_steps.proofs.ranks.kept_ranks.Given as goal

abbrev pub invariant-loop-place : goal.invariant-loop-place
invariant-loop-place g l =
    (length l.ranks.values ≡ length l.order) × (l.ranks.count ≡ l.count)
