-- Laws on this crate's definitions, made for other crates too.
-- who goes next where the thread of the choice has taken its step, or has posted
pub mod Turns
