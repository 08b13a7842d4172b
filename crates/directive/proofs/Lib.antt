pub mod Bodies
pub mod Rows
pub mod Places
pub mod Faultless
pub mod Readings
pub mod Texts
pub mod Laws
