use Rattle.policy_pick.specs.Kept.{points_plan, PointsStand}
use Rattle.test_runs.specs.OneStep.{once_pending}
use Rattle.test_runs.specs.declared.runs.batches.Once.{Once}
use Rattle.worker_run.proofs.laws.Batches.{no-tests-in}
use Rattle.test_runs.proofs.runs.batches.first_tests.Goals as goal

pub loop-place-init : goal.loop-place-init
loop-place-init c =
    no-tests-in (λ (b : Once). once_pending b.ask 7 b.asked) points_plan PointsStand
    c.new-tests.result.items c.new-tests.ensures.items
