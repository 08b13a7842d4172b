pub mod Own
pub mod Answered
