-- Laws on this crate's definitions, made for other crates too.
-- how a world grows along a schedule
pub mod Worlds
-- what stays as more posts become known
pub mod MorePosts
-- of two lists of steps that obey one plan one begins with the other
pub mod Prefixes
-- steps that obey a plan: none, one more, and of whom they are
pub mod ObeyingSteps
-- a thread's own steps, and more of its posts
pub mod OwnSteps
-- a post and a step, as they make a later sight of a book
pub mod LaterSights
