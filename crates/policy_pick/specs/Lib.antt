pub mod Choice
pub mod Kept
pub mod Laws
pub mod Plan
