use Rattle.test_runs.specs.declared.samples.Sample.{Sample}
use Rattle.worker_run.proofs.laws.Orders.{declared_is_order}
use Rattle.test_runs.proofs.Ranges.{samples-fit}
use Rattle.test_runs.proofs.runs.loses_an_update_by_a_moment.Goals as goal

pub invariant_of-run_by_moments-clause-is_order : goal.invariant_of-run_by_moments-clause-is_order
invariant_of-run_by_moments-clause-is_order g c = ∣ declared_is_order 3 ∣₁

pub run_by_moments-requires-clause-in_range : goal.run_by_moments-requires-clause-in_range
run_by_moments-requires-clause-in_range g c = λ κs.
    samples-fit c.in_ok-deal.deal c.in_ok-deal.ensures.vars c.in_ok-deal.ensures.threads
    (λ (s : Sample). s.thread) (λ (s : Sample). s.steps) (λ (s : Sample). s.seen)
    c.in_ok-bodies.bodies.items
