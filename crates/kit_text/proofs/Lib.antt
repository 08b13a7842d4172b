pub mod Blocked
pub mod KnownBlocked
