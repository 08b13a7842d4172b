pub mod OneStep
pub mod Seats
