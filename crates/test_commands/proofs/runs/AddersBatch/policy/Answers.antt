-- The threads in their order are an order, and the policy's run is that of the order and the point.
use Rattle.std.proofs.Common.{◌-◌, [], ◌∷◌, sym}
use Rattle.policy_pick.specs.Kept.{points_plan}
use Rattle.script_code.specs.Listing.{listing}
use Rattle.worker_run.specs.Run.{run}
use Rattle.worker_run.specs.Played.{IsRun}
use Rattle.worker_run.proofs.laws.Orders.{declared_is_order}
use Rattle.script_run.specs.Batches.{Common}
use Rattle.script_run.specs.Ready.{bodies_of_code}
use Rattle.script_run.proofs.Laws.{by_points}
use Rattle.test_commands.proofs.runs.AddersBatch.policy.Goals as goal

pub invariant_of-priorities-clause-is_order : goal.invariant_of-priorities-clause-is_order
invariant_of-priorities-clause-is_order c = ∣ declared_is_order 3 ∣₁

pub returns-clause-plan : goal.returns-clause-plan
returns-clause-plan c =
    let ready = c.args.self.now.ready in
    let order = 0 ∷ 1 ∷ 2 ∷ [] in
    let points = (4 - c.args.place) ∷ [] in
    let common : Common = record {
      code = listing ready.code.now;
      deal = ready.deal.now;
      limit = 100;
    } in
    by_points points_plan common
    (λ played. IsRun (run ready.deal.now (bodies_of_code (listing ready.code.now)) order points 100)
    played.events played.outcome) order (sym c.args.self.now.three) points c.of_priorities.result
    (λ ended ran short. ran) c.of_priorities.ensures.plan
