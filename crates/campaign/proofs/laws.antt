-- Laws on campaigns, made for other crates too: each speaks of definitions alone.
-- a campaign has one list of rows
pub mod OneCampaign
