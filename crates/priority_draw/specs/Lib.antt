pub mod Words
pub mod Orders
pub mod Drawing
pub mod Rows
