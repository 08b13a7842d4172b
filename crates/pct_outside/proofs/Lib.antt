pub mod FileLemmas
pub mod laws
