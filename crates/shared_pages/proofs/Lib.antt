pub mod InPages
pub mod Chunks
pub mod Cloning
pub mod Parts
