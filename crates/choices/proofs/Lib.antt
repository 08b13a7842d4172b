pub mod laws
pub mod PointWalk
pub mod MomentWalk
pub mod Places
pub mod Bounds
