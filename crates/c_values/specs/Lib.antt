pub mod Asks
pub mod Deals
pub mod Events
pub mod Moments
pub mod NamesText
pub mod Outcomes
pub mod Rows
pub mod Told
