pub mod Groups
pub mod Growing
