pub mod Directed
pub mod Finding
pub mod Certified
