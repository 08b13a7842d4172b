pub mod Choices
pub mod Rows
pub mod Swept
pub mod Weights
pub mod Batches
