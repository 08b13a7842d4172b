-- Laws on this crate's definitions, made for other crates too.
-- what holds of each list of flat code, and of each of its operations
pub mod Listings
