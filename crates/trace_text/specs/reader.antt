-- How the reader takes a text apart, for the clauses of its private functions. No clause of what
-- this crate gives to others rests on these definitions.
pub mod Numbers
pub mod Asks
pub mod StepLines
pub mod Heads
pub mod Reading
pub mod Seen
