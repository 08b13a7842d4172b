use Rattle.policy_pick.specs.Kept.{points_plan, PointsStand}
use Rattle.worker_run.specs.Tests.{AreTests}
use Rattle.test_runs.specs.OneStep.{once_pending}
use Rattle.test_runs.specs.declared.runs.batches.Once.{Once}
use Rattle.test_runs.proofs.runs.batches.first_tests.Given as goal

-- of the tests so far
abbrev pub invariant-loop-place : goal.invariant-loop-place
invariant-loop-place l =
    AreTests (λ (b : Once). once_pending b.ask 7 b.asked) points_plan PointsStand l.tests.items
