pub mod Bodies
pub mod Run
pub mod Played
pub mod Served
pub mod Samples
pub mod Batch
pub mod Batches
pub mod Tests
