use Rattle.std.proofs.Common.{◌≡◌, ℕ, ◌+◌, ◌-◌, ◌*◌, ap, refl, ◌∙◌, arith}
use Rattle.priority_draw.specs.Words.{words_later}
use Rattle.priority_draw.specs.Drawing.{drawn_points}
use Rattle.pct_top.proofs.Draws.{drawn_points as drawn-fit}
use Rattle.pct_top.proofs.run_plan.drawn.Goals as goal

pub invariant_of-result-clause-is_order : goal.invariant_of-result-clause-is_order
invariant_of-result-clause-is_order c = ∣ (c.in_ok-order.ensures.order).is_order ∣₁

pub invariant_of-result-clause-points_fit : goal.invariant_of-result-clause-points_fit
invariant_of-result-clause-points_fit c = (
  omega (arith, c.in_ok-points.ensures.count, c.points.ensures.few),
  drawn-fit c.steps.result c.in_ok-points.points c.steps.ensures.fits
      c.in_ok-points.ensures.steps,
)

pub returns-clause-whole : goal.returns-clause-whole
returns-clause-whole c = (c.in_ok-order.ensures.order).whole

pub returns-clause-points : goal.returns-clause-points
returns-clause-points c =
    let seed = c.args.seed in
    let threads = c.args.threads in
    let count = c.points.result in
    let many : count + 1 - 1 ≡ c.args.depth - 1 = omega (arith, c.points.ensures.number) in
    let then = c.in_ok-order.ensures.words
    ∙ ap (λ w. words_later w (2 * threads)) c.of_seed-words.ensures in
    c.in_ok-points.ensures.of_seed seed threads (count + 1) then refl
    ∙ ap (λ (steps : ℕ). drawn_points seed (2 * threads) steps (count + 1 - 1))
    c.steps.ensures.number
    ∙ ap (λ (k : ℕ). drawn_points seed (2 * threads) c.args.steps k) many
