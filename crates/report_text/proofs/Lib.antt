pub mod Plain
pub mod Written
pub mod Spaced
pub mod SweepWritten
