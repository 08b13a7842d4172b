pub mod Counts
pub mod Holders
pub mod Orders
pub mod Places
pub mod Words
pub mod laws
