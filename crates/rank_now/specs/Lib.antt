pub mod Order
pub mod Positions
pub mod Rank
pub mod Ranking
