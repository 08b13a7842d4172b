pub mod PlaceLemmas
pub mod NumberLemmas
pub mod RangeLemmas
pub mod LineLemmas
pub mod VerdictWordLemmas
pub mod StuckLemmas
pub mod PieceLemmas
pub mod laws
