pub mod laws
mod Rows
mod Runs
mod Examples
