use Rattle.policy_pick.specs.Kept.{points_plan, PointsStand}
use Rattle.test_runs.specs.OneStep.{once_pending}
use Rattle.test_runs.specs.declared.runs.batches.Once.{Once}
use Rattle.worker_run.proofs.laws.Batches.{one-more-test}
use Rattle.test_runs.proofs.runs.batches.add_test.Goals as goal

pub returns : goal.returns
returns c =
    one-more-test (λ (b : Once). once_pending b.ask 7 b.asked) points_plan PointsStand
    c.args.tests.now.items c.push.new.self.items c.in_ok-test.test c.in_ok-push.ensures.items
    c.in_ok-test.ensures c.requires
