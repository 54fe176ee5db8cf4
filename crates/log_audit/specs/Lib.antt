pub mod Logs
pub mod Matching
pub mod Replays
