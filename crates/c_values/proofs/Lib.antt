mod BlockedPlaces
mod NameSteps
mod SaidSteps
pub mod laws
