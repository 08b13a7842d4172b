pub mod Adders
