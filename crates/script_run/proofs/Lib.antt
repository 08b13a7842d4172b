pub mod Laws
pub mod Codes
pub mod Runs
pub mod Places
pub mod Sets
