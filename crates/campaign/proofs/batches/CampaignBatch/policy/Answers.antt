-- The policy's run is that of the order and the points that the seed draws.
use Rattle.std.proofs.Common.{◌≡◌, ℕ, ◌+◌, ◌-◌, ◌*◌, ap, refl, length, ◌∙◌, arith}
use Rattle.priority_draw.specs.Words.{words_later}
use Rattle.priority_draw.specs.Drawing.{drawn_points, draw_of_seed}
use Rattle.campaign.proofs.Runs.{seed-planned}
use Rattle.campaign.proofs.batches.CampaignBatch.policy.Goals as goal

pub returns-clause-plan : goal.returns-clause-plan
returns-clause-plan c =
    let campaign = c.args.self.now in
    let seed = c.seed_at.result in
    let threads = campaign.script.deal.now.threads in
    let gives = draw_of_seed seed threads campaign.steps campaign.depth in
    let first = c.of_seed-words.ensures in
    let order : c.as_slice-order.result.now ≡ gives.order =
    c.as_slice-order.ensures ∙ c.in_ok-order.ensures.of_seed seed campaign.steps campaign.depth
    first in
    let then = c.in_ok-order.ensures.words ∙ ap (λ w. words_later w (2 * threads)) first in
    let count = c.points.result in
    let many : count + 1 - 1 ≡ campaign.depth - 1 = omega (arith, c.points.ensures.number) in
    let points : c.as_slice-points.result.now ≡ gives.points =
    c.as_slice-points.ensures
    ∙ c.in_ok-points.ensures.of_seed seed threads (count + 1) then refl
    ∙ ap (λ (steps : ℕ). drawn_points seed (2 * threads) steps (count + 1 - 1))
    c.steps.ensures.number
    ∙ ap (λ (many : ℕ). drawn_points seed (2 * threads) campaign.steps many) many in
    seed-planned campaign seed _ c.of_priorities.result _ _ order points c.seed_at.ensures
    (omega (arith, ap length c.as_slice-order.ensures, c.in_ok-order.ensures.order.whole))
    c.of_priorities.ensures.plan
