-- `campaign`: the report on a script's runs over seeds (this project).
use Rattle.std.specs.Prelude.{◌≡◌, ℕ, Bool, if◌then◌else◌, List, map, Option, Some}
use Rattle.std.specs.List.{list_all}
use Rattle.pct_ask.specs.declared.Deal.{Deal}
use Rattle.pct_ask.specs.declared.event.Row.{Row}
use Rattle.script_tree.specs.ScriptText.{ScriptText}
use Rattle.script_body.specs.Bodies.{bodies_of}
use Rattle.campaign.specs.Rows.{CampaignSetup, rows_of}
use Rattle.failure_rank.specs.declared.group.Group.{Group}
use Rattle.failure_rank.specs.Groups.{IsRanking}
use Rattle.report_text.specs.declared.frame.Frame.{Frame}
use Rattle.report_text.specs.Text.{text_of}
use Rattle.report_text.specs.Json.{json_of}
use Rattle.pct_top.specs.Printed.{Printed, printed_text}
use Rattle.pct_top.specs.Runs.{DrawsFrom, is_passed}

-- what the runs of a campaign of a script have in common
abbrev pub setup_of : ScriptText → Deal → ℕ → ℕ → ℕ → CampaignSetup
setup_of script deal depth steps limit = record {
  deal = deal;
  bodies = bodies_of script;
  depth = depth;
  steps = steps;
  limit = limit;
}

-- what a report says that its campaign was run with
abbrev pub frame_of : Deal → ℕ → ℕ → ℕ → Frame
frame_of deal depth steps limit =
    record { threads = deal.threads; steps = steps; depth = depth; limit = limit }

-- every run passes
abbrev pub all_pass : List Row → Bool
all_pass rows = list_all (λ row. is_passed row.verdict) rows

-- the report as JSON or as a text
abbrev pub campaign_text : Bool → ScriptText → Frame → List Row → List Group → List ℕ
campaign_text json script frame rows groups =
    if json then json_of frame rows groups script.names else text_of frame rows groups script.names

-- The report on these rows and groups is printed. It is done where every run passes.
abbrev pub printed_campaign : Bool → ScriptText → Frame → List Row → List Group → Printed
printed_campaign json script frame rows groups =
    printed_text (campaign_text json script frame rows groups) (all_pass rows)

-- the rows of so many seeds from the first one on, with their groups
pub record AreOfSeeds (setup : CampaignSetup) (first count : ℕ) (rows : List Row)
    (groups : List Group) :
    Type 0 where
  pub are : map Some rows ≡ rows_of setup first count
  pub ranked : IsRanking rows groups

-- the report on the runs of so many seeds, whose points are drawn from k steps
abbrev pub OfSeeds : ℕ → ℕ → ℕ → ℕ → ℕ → Bool → ScriptText → Deal → Printed → Type 0
OfSeeds first count depth k limit json script deal printed =
    (rows : List Row) × (groups : List Group)
    × AreOfSeeds (setup_of script deal depth k limit) first count rows groups
    × (printed ≡ printed_campaign json script (frame_of deal depth k limit) rows groups)

-- the report on the runs of so many seeds, whose points are drawn from the steps that are given, or
-- else from as many as the run in declared order has
abbrev pub OfCampaign : ℕ → ℕ → ℕ → Option ℕ → ℕ → Bool → ScriptText → Deal → Printed → Type 0
OfCampaign first count depth steps limit json script deal printed =
    (k : ℕ) × DrawsFrom script deal limit steps k
    × OfSeeds first count depth k limit json script deal printed
