pub mod Combine
pub mod Waiting
pub mod Answering
pub mod Spots
pub mod Turns
pub mod Asking
pub mod BodyPosts
pub mod Bodies
