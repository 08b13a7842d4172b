pub mod Orders
pub mod PointLists
pub mod Points
pub mod Moments
pub mod Counting
pub mod Laws
pub mod Rows
