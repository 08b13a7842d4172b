-- Laws on this crate's definitions, made for other crates too.
-- an ask of a trace has its objects
pub mod Objects
-- a text has one first fault over given names
pub mod Faults
-- a file's trace is read as the file
pub mod Answers
-- a verdict of a step that names what there is may be told by a trace
pub mod KnownVerdicts
-- the words of a line behind spaces
pub mod Spaced
