pub mod Exposing
pub mod Guarantees
pub mod Certifying
pub mod Tested
pub mod Laws
pub mod Rows
