pub mod Deciding
pub mod Endings
pub mod Parts
pub mod Runs
pub mod Unanswered
