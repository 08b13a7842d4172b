pub mod Nestings
pub mod Good
pub mod Chosen
pub mod MutexSets
