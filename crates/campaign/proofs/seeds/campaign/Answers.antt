-- The depth and the limits are the numbers that they are made of.
use Rattle.std.specs.Prelude.{IfOk}
use Rattle.std.proofs.Common.{◌≡◌, ℕ, Some, map, subst}
use Rattle.script_body.specs.Bodies.{bodies_of}
use Rattle.campaign.specs.Rows.{rows_of}
use Rattle.campaign.proofs.seeds.campaign.Goals as goal

pub returns : goal.returns
returns g c = λ script of.
    let R : ℕ → ℕ → ℕ → Type 0 = λ depth steps limit. IfOk c.campaign_by.result
    (λ rows. map Some rows ≡ rows_of (record {
      deal = c.args.deal.now;
      bodies = bodies_of script;
      depth = depth;
      steps = steps;
      limit = limit;
    }) c.args.first c.args.count) in
    subst (R c.args.depth c.args.steps) c.new-limit.ensures
    (subst (λ steps. R c.args.depth steps c.new-limit.result) c.new-steps.ensures
    (subst (λ depth. R depth c.new-steps.result c.new-limit.result) c.new-depth.ensures
    (c.campaign_by.ensures script of)))
