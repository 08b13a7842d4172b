pub mod ExposedPoints
pub mod OneAnswer
