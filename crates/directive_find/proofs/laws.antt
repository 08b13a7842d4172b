-- Laws on the moments of a run and on what reducing leaves, made for other crates too: each speaks
-- of definitions alone.
-- the run of an order and points is the directed run of its moments
pub mod FoundMoments
-- a run's moments are of its threads, and are steps that there may be
pub mod FittingMoments
-- a list reduces to one list, which holds, and needs each of its items
pub mod Reducing
-- what is found is one thing
pub mod Findings
