use Rattle.std.proofs.Common.{ℕ, false, [], ◌∷◌, sym, subst, arith}
use Rattle.pct_ask.specs.Objects.{sizes_of_deal}
use Rattle.pct_ask.specs.Bodies.{Pending, IsInRangeBody}
use Rattle.test_runs.proofs.Ranges.{adders-within, four-within}
use Rattle.test_runs.proofs.runs.crowds.run_four.Goals as goal

pub run_boxed-requires-clause-in_range : goal.run_boxed-requires-clause-in_range
run_boxed-requires-clause-in_range g c = λ κs p.
    let deal = c.in_ok-deal.deal in
    let InRange : Pending → Type 0 = IsInRangeBody (sizes_of_deal deal) in
    let adds = adders-within (sizes_of_deal deal) (omega (arith, c.in_ok-deal.ensures.vars))
    (omega (arith, c.in_ok-deal.ensures.sems)) (λ (t : ℕ). 7) (λ (t : ℕ). false) (0 ∷ []) 0 in
    four-within (sizes_of_deal deal) _ c.in_ok-bodies.bodies.items
    c.args.one c.args.two c.args.three c.args.last c.in_ok-bodies.ensures
    (subst InRange (sym c.requires.one) adds) (subst InRange (sym c.requires.two) adds)
    (subst InRange (sym c.requires.three) adds) (subst InRange (sym c.requires.last) adds)
