-- Laws for other crates too: each speaks of definitions alone.
-- what a call refuses because another one did
pub mod Refusals
