-- The threads in their order are an order.
use Rattle.worker_run.proofs.laws.Orders.{declared_is_order}
use Rattle.test_commands.proofs.runs.expect_failed.Goals as goal

pub invariant_of-priorities-clause-is_order : goal.invariant_of-priorities-clause-is_order
invariant_of-priorities-clause-is_order g c = ∣ declared_is_order 3 ∣₁

pub invariant_of-priorities-2-clause-is_order : goal.invariant_of-priorities-2-clause-is_order
invariant_of-priorities-2-clause-is_order g c = ∣ declared_is_order 3 ∣₁
