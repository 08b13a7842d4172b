pub mod Operations
pub mod Placed
pub mod FlatPosts
pub mod Rest
pub mod Layout
pub mod CodeOf
pub mod Listing
