use Rattle.std.proofs.Common.{length, ap, ◌∙◌}
use Rattle.run_bench.proofs.repeating.run_all.Goals as goal

pub run_once-requires-clause-order : goal.run_once-requires-clause-order
run_once-requires-clause-order g c κs within =
    ap length c.as_slice.ensures ∙ (c.in_ok-order.ensures.order).whole
