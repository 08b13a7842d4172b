pub mod Laid
pub mod Alike
pub mod Placing
pub mod Whole
pub mod Pieces
pub mod EmitLemmas
pub mod Threads
pub mod laws
