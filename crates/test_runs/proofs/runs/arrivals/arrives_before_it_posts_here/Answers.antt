use Rattle.std.proofs.Common.{arith}
use Rattle.pct_ask.specs.Objects.{sizes_of_deal}
use Rattle.test_runs.specs.declared.runs.arrivals.Watcher.{Watcher}
use Rattle.test_runs.proofs.Ranges.{adders-within}
use Rattle.test_runs.proofs.runs.arrivals.arrives_before_it_posts_here.Goals as goal

pub run_here-requires-clause-in_range : goal.run_here-requires-clause-in_range
run_here-requires-clause-in_range g c = λ κs.
    adders-within (sizes_of_deal c.in_ok-deal.deal) (omega (arith, c.in_ok-deal.ensures.vars))
    (omega (arith, c.in_ok-deal.ensures.sems)) (λ (b : Watcher). 7) (λ (b : Watcher). b.added)
    c.in_ok-bodies.bodies.items
