pub mod Known
pub mod Showable
