pub mod Reduced
pub mod Found
pub mod Laws
