-- A law on campaigns (this project).
use Rattle.std.specs.Prelude.{◌≡◌, ℕ, List, Some, map}
use Rattle.pct_ask.specs.declared.event.Row.{Row}
use Rattle.campaign.specs.Rows.{CampaignSetup, rows_of}

-- A campaign has one list of rows.
abbrev pub EachHasOneList : Type 0
EachHasOneList =
    (setup : CampaignSetup) (first count : ℕ) (one other : List Row)
    → map Some one ≡ rows_of setup first count → map Some other ≡ rows_of setup first count
    → one ≡ other
