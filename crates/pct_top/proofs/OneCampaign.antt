-- The report on a campaign is one thing.
use Rattle.std.proofs.Common.{◌≡◌, ℕ, List, Bool, Option, sym, subst, ap, ◌∙◌}
use Rattle.pct_ask.specs.declared.Deal.{Deal}
use Rattle.pct_ask.specs.declared.event.Row.{Row}
use Rattle.script_tree.specs.ScriptText.{ScriptText}
use Rattle.campaign.specs.Rows.{CampaignSetup}
use Rattle.campaign.proofs.laws.OneCampaign.{one_campaign}
use Rattle.failure_rank.specs.declared.group.Group.{Group}
use Rattle.failure_rank.specs.Groups.{IsRanking}
use Rattle.failure_rank.proofs.Laws.{one_ranking}
use Rattle.pct_top.specs.Printed.{Printed}
use Rattle.pct_top.specs.commands.Campaign.{setup_of, frame_of, all_pass, campaign_text}
use Rattle.pct_top.specs.commands.Campaign.{printed_campaign, AreOfSeeds, OfSeeds, OfCampaign}
use Rattle.pct_top.specs.Call.{IsCarriedOut}
use Rattle.pct_top.proofs.OneReport.{answers_as, one_count}

-- rows of seeds and their groups are one
pub record AreOne (rows others : List Row) (groups more : List Group) : Type 0 where
  pub rows_are : rows ≡ others
  pub groups_are : groups ≡ more

pub of_seeds_once : (setup : CampaignSetup) (first count : ℕ) (rows others : List Row)
    (groups more : List Group) → AreOfSeeds setup first count rows groups
    → AreOfSeeds setup first count others more → AreOne rows others groups more
of_seeds_once setup first count rows others groups more a b =
    let same = one_campaign setup first count rows others a.are b.are in
    record {
      rows_are = same;
      groups_are = sym
          (one_ranking others groups more (subst (λ rs. IsRanking rs groups) same a.ranked)
          b.ranked);
    }

module _ (script : ScriptText) (deal : Deal) (first count depth : ℕ) (steps : Option ℕ) (limit : ℕ)
    (json : Bool) where
  seeds_once : (k : ℕ) (p q : Printed) → OfSeeds first count depth k limit json script deal p
      → OfSeeds first count depth k limit json script deal q → p ≡ q
  seeds_once k p q a b =
      let one = of_seeds_once (setup_of script deal depth k limit) first count a.0 b.0 a.1 b.1 a.2
      b.2 in
      a.3 ∙ ap (λ rows. printed_campaign json script (frame_of deal depth k limit) rows a.1)
      one.rows_are
      ∙ ap (printed_campaign json script (frame_of deal depth k limit) b.0) one.groups_are ∙ sym b.3

  pub campaign_once : (p q : Printed) → OfCampaign first count depth steps limit json script deal p
      → OfCampaign first count depth steps limit json script deal q → p ≡ q
  campaign_once p q a b =
      let same = one_count script deal limit steps a.0 b.0 a.1 b.1 in
      seeds_once b.0 p q (subst (λ k. OfSeeds first count depth k limit json script deal p) same
      a.2) b.2

  pub campaign_answers : (p : Printed) → OfCampaign first count depth steps limit json script deal p
      → IsCarriedOut p.status
  campaign_answers p a =
      answers_as p (campaign_text json script (frame_of deal depth a.0 limit) (a.2).0 (a.2).1)
      (all_pass (a.2).0) (a.2).3
