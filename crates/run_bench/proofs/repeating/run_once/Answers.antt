use Rattle.std.proofs.Common.{map, sym, ap, subst, ◌∙◌}
use Rattle.pct_ask.specs.declared.Deal.{Deal}
use Rattle.pct_ask.specs.Objects.{sizes_of_deal}
use Rattle.pct_ask.specs.Bodies.{AreInRange}
use Rattle.script_body.specs.BodyPosts.{pending_of_body}
use Rattle.run_bench.proofs.repeating.run_once.Goals as goal

pub run_here-requires-clause-bodies : goal.run_here-requires-clause-bodies
run_here-requires-clause-bodies g c κs within =
    c.in_ok-bodies.ensures.one_each c.requires.script.0 c.args.deal.now c.requires.script.1
    ∙ ap (λ (d : Deal). d.threads) (sym c.in_ok-own.ensures)

pub run_here-requires-clause-in_range : goal.run_here-requires-clause-in_range
run_here-requires-clause-in_range g c κs within =
    let D : Deal → Type 0 = λ d. AreInRange (sizes_of_deal d)
    (map pending_of_body c.in_ok-bodies.bodies.items) in
    subst D (sym c.in_ok-own.ensures)
    (c.in_ok-bodies.ensures.in_range c.requires.script.0 c.args.deal.now c.requires.script.1)

pub run_threads-requires-clause-bodies : goal.run_threads-requires-clause-bodies
run_threads-requires-clause-bodies g c κs within =
    c.in_ok-bodies.ensures.one_each c.requires.script.0 c.args.deal.now c.requires.script.1
    ∙ ap (λ (d : Deal). d.threads) (sym c.in_ok-own.ensures)

pub run_threads-requires-clause-in_range : goal.run_threads-requires-clause-in_range
run_threads-requires-clause-in_range g c κs within =
    let D : Deal → Type 0 = λ d. AreInRange (sizes_of_deal d)
    (map pending_of_body c.in_ok-bodies.bodies.items) in
    subst D (sym c.in_ok-own.ensures)
    (c.in_ok-bodies.ensures.in_range c.requires.script.0 c.args.deal.now c.requires.script.1)
