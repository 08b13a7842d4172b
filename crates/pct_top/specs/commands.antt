-- What each command prints, a page for each.
pub mod Run
pub mod Races
pub mod Locks
pub mod Find
pub mod Campaign
pub mod Big
pub mod KnownFinding
pub mod Replay
pub mod KnownReply
pub mod Expose
pub mod Certify
pub mod KnownCertificate
pub mod Sweep
