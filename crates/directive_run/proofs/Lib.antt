pub mod laws
pub mod Exposure
pub mod Certificates
mod OrderRuns
