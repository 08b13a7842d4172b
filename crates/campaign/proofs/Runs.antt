-- The policies of seeds are of the seeds' runs, and their rows.
use Rattle.std.proofs.Common.{◌≡◌, ℕ, List, Option, Some, Result, length, sym, ap}
use Rattle.std.proofs.Common.{subst, ◌∙◌}
use Rattle.std.specs.Prelude.{IfOk}
use Rattle.std.specs.Option.{option_map}
use Rattle.pct_ask.specs.declared.event.Row.{Row}
use Rattle.pct_ask.specs.declared.verdict.Verdict.{Verdict}
use Rattle.pct_ask.specs.declared.verdict.Outcome.{Outcome}
use Rattle.pct_ask.specs.declared.verdict.Outcome.TheVariants.{Verdict as Ends}
use Rattle.policy_pick.specs.Kept.{PointsKept, points_plan}
use Rattle.policy_pick.specs.Plan.{ByPoints}
use Rattle.priority_draw.specs.Drawing.{draw_of_seed}
use Rattle.worker_run.specs.Run.{Run, run}
use Rattle.worker_run.specs.Played.{IsRun}
use Rattle.worker_run.specs.declared.played.Played.{Played}
use Rattle.script_run.specs.Batches.{IsPlanOf}
use Rattle.script_run.proofs.Laws.{by_points}
use Rattle.campaign.specs.Rows.{CampaignSetup, row_of_run, row_of_seed}
use Rattle.campaign.specs.Batches.{common_of_campaign, setup_of_campaign, IsSeedRun}
use Rattle.campaign.specs.declared.common.Campaign.{Campaign}

-- a policy that was made of what the seed gives is of its run
pub seed-planned : {E : Type 0} (campaign : Campaign) (seed other : ℕ) (made : Result PointsKept E)
    (order points : List ℕ)
    → order ≡ (draw_of_seed seed campaign.script.deal.now.threads campaign.steps
    campaign.depth).order
    → points ≡ (draw_of_seed seed campaign.script.deal.now.threads campaign.steps
    campaign.depth).points
    → seed ≡ other → length order ≡ campaign.script.deal.now.threads
    → IfOk made (λ p. points_plan p ≡ ByPoints order points)
    → IfOk made (λ p. IsPlanOf (common_of_campaign campaign)
    (IsSeedRun (setup_of_campaign campaign) other) (points_plan p))
seed-planned campaign seed other made order points ordered pointed same whole is =
    let setup = setup_of_campaign campaign in
    let gives = draw_of_seed seed setup.deal.threads setup.steps setup.depth in
    by_points points_plan (common_of_campaign campaign) (IsSeedRun setup other) order whole points
    made
    (λ ended ran short.
    let R : List ℕ → List ℕ → Type 0 =
    λ o ps. IsRun (run setup.deal setup.bodies o ps setup.limit) ended.events ended.outcome in
    subst (λ s. IsSeedRun setup s ended) same (record {
      run = subst (λ o. R o gives.points) ordered (subst (R order) pointed ran);
      short = short;
    }))
    is

one-verdict : (outcome : Outcome) (v w : Verdict) → outcome ≡ Ends v → outcome ≡ Ends w → v ≡ w
one-verdict outcome v w a b = let same : Ends v ≡ Ends w = sym a ∙ b in cc

pub run-row : (setup : CampaignSetup) (seed : ℕ) (played : Played) (row : Row)
    → IsSeedRun setup seed played → row.seed ≡ seed → row.steps ≡ length played.events
    → played.outcome ≡ Ends row.verdict → row_of_seed setup seed ≡ Some row
run-row setup seed played row is at many ends =
    let verdict = one-verdict played.outcome is.run.verdict row.verdict is.run.ends ends in
    let made : row_of_run seed (played.events, is.run.verdict) ≡ row =
    λ i. record { seed = (sym at) i; steps = (sym many) i; verdict = verdict i } in
    ap (λ (r : Option Run). option_map (row_of_run seed) r) is.run.steps ∙ ap Some made
