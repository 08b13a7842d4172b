pub mod Errors
pub mod Seeding
pub mod Runs
pub mod Seats
pub mod Rows
pub mod Replays
pub mod Deals
pub mod Laws
