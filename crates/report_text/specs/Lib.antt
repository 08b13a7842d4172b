pub mod Report
pub mod Text
pub mod Json
pub mod Data
pub mod SweepText
pub mod SweepJson
pub mod SweepData
