pub mod Refusals
pub mod Answered
pub mod Ports
pub mod Laws
