pub mod laws
pub mod Rounds
