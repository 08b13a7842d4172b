pub mod GateState
pub mod Meeting
