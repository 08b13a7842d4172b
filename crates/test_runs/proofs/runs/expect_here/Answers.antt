use Rattle.test_runs.specs.declared.samples.Sample.{Sample}
use Rattle.test_runs.proofs.Ranges.{samples-fit}
use Rattle.test_runs.proofs.runs.expect_here.Goals as goal

pub run_here-requires-clause-in_range : goal.run_here-requires-clause-in_range
run_here-requires-clause-in_range g c = λ κs p.
    samples-fit c.in_ok-deal.deal c.in_ok-deal.ensures.vars c.in_ok-deal.ensures.threads
    (λ (s : Sample). s.thread) (λ (s : Sample). s.steps) (λ (s : Sample). s.seen)
    c.in_ok-bodies.bodies.items
