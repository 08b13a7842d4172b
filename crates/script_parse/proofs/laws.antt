-- Laws on this crate's definitions, made for other crates too.
-- a text has one first fault
pub mod Faults
-- a text spells one script, and then has no fault
pub mod Scripts
