use Rattle.std.proofs.Common.{ℕ, pos, [], ◌∷◌, sym, subst}
use Rattle.pct_ask.specs.Objects.{sizes_of_deal}
use Rattle.pct_ask.specs.Bodies.{Pending, IsInRangeBody}
use Rattle.body_kit.proofs.Laws.{boxed-in-range}
use Rattle.test_runs.proofs.Ranges.{samples-fit}
use Rattle.test_runs.proofs.boxed.run_three.Goals as goal

pub run_boxed-requires-clause-in_range : goal.run_boxed-requires-clause-in_range
run_boxed-requires-clause-in_range g c = λ κs p.
    let deal = c.in_ok-deal.deal in
    let InRange : Pending → Type 0 = IsInRangeBody (sizes_of_deal deal) in
    let all = samples-fit deal c.in_ok-deal.ensures.vars c.in_ok-deal.ensures.threads
    (λ (t : ℕ). t) (λ (t : ℕ). 0) (λ (t : ℕ). pos 0) (0 ∷ 1 ∷ 2 ∷ []) in
    boxed-in-range (sizes_of_deal deal) _ c.in_ok-bodies.bodies.items
    c.args.one c.args.other c.args.last c.in_ok-bodies.ensures
    (subst InRange (sym c.requires.one) (all 0))
    (subst InRange (sym c.requires.other) (all 1))
    (subst InRange (sym c.requires.last) (all 2))
