pub mod Compared
pub mod Parts
pub mod laws
