pub mod Places
pub mod Runs
pub mod Rows
pub mod Lists
pub mod RowLemmas
pub mod Totals
pub mod Weights
pub mod Clips
pub mod Repeats
pub mod Spreads
pub mod Alike
pub mod Whole
pub mod Steps
pub mod Aheads
pub mod Counts
pub mod Laws
mod Passed
