-- Laws on runs and ranks, made for other crates too: each speaks of definitions alone.
-- the declared order is an order
pub mod Orders
-- two ways to rank the threads that order them alike have one run
pub mod SameRuns
-- two ways to give indices at steps that agree on their order rank the threads alike
pub mod RanksAlike
-- own steps and moments: a moment is one step at most
pub mod Moments
-- over bodies there is a whole run by points, or by moments, and it is what is played
pub mod WholeRuns
-- where every thread's next post is known, no choice waits
pub mod KnownPosts
-- over bodies only one list of steps obeys a plan and is settled
pub mod OnePlayed
-- when a run is over, and that it stays so
pub mod RunsOver
-- the sample threads name only what there is
pub mod SampleRanges
-- a test more in a list of tests
pub mod Batches
-- items of a list by their indices
pub mod ItemsByIndex
-- what is so of all that bodies ask is so of their run's steps, and its verdict follows
pub mod AskedRuns
