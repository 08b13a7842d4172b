pub mod WordLemmas
pub mod CountLemmas
pub mod PlaceLemmas
pub mod DrawLemmas
pub mod laws
