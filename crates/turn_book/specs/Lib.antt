pub mod Chances
pub mod Posts
pub mod Obeys
pub mod Told
pub mod Board
pub mod Kept
pub mod Rows
pub mod Answers
