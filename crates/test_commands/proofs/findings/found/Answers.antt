-- The threads in their order are an order.
use Rattle.worker_run.proofs.laws.Orders.{declared_is_order}
use Rattle.test_commands.proofs.findings.found.Goals as goal

pub find-requires-clause-order : goal.find-requires-clause-order
find-requires-clause-order g c κs within = declared_is_order 3
