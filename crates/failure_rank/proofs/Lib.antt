pub mod RowLemmas
pub mod Counting
pub mod Unique
pub mod Stable
pub mod Laws
mod Rows
