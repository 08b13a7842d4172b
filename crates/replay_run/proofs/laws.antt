-- Laws on this crate's definitions, made for other crates too.
-- a replay tells one thing
pub mod OneReplay
-- the list of a run's own threads makes that run again
pub mod ListedRuns
