-- The runs of a campaign's seeds, which are made in batches, and the rows so far (this project).
-- Nothing here is needed to read a public contract.
use Rattle.std.specs.Prelude.{◌≡◌, ◌≤◌, ℕ, List, Vec, length, map, Some, vec_capacity}
use Rattle.std.specs.Global.{Global}
use Rattle.pct_ask.specs.declared.event.Row.{Row}
use Rattle.script_code.specs.Listing.{listing}
use Rattle.worker_run.specs.Played.{IsRun}
use Rattle.worker_run.specs.declared.played.Played.{Played}
use Rattle.script_run.specs.Ready.{bodies_of_code}
use Rattle.script_run.specs.Batches.{Common}
use Rattle.campaign.specs.Rows.{CampaignSetup, run_of_seed, rows_of}
use Rattle.campaign.specs.declared.common.Campaign.{Campaign}

-- what the campaign's runs have in common
abbrev pub setup_of_campaign : Campaign → CampaignSetup
setup_of_campaign campaign = record {
  deal = campaign.script.deal.now;
  bodies = bodies_of_code (listing campaign.script.code.now);
  depth = campaign.depth;
  steps = campaign.steps;
  limit = campaign.limit;
}

-- the same of the batch that they are
abbrev pub common_of_campaign : Campaign → Common
common_of_campaign campaign = record {
  code = listing campaign.script.code.now;
  deal = campaign.script.deal.now;
  limit = campaign.limit;
}

-- the run of the seed, of at most so many steps as the limit says
pub record IsSeedRun (setup : CampaignSetup) (seed : ℕ) (played : Played) : Type 0 where
  pub run : IsRun (run_of_seed setup seed) played.events played.outcome
  pub short : length played.events ≤ setup.limit

-- the rows are those of the first seeds, in their order
abbrev pub AreFirstRows : CampaignSetup → ℕ → List Row → Type 0
AreFirstRows setup first rows = map Some rows ≡ rows_of setup first (length rows)

-- there is a row for each seed before the place, and room for so many
pub record HasRowsBefore (setup : CampaignSetup) (first count : ℕ) (rows : Vec Row Global)
    (place : ℕ)
    : Type 0 where
  pub long : length rows.items ≡ place
  pub room : vec_capacity rows ≡ count
  pub are : AreFirstRows setup first rows.items
