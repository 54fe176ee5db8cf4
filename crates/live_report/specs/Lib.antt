pub mod Dealing
pub mod Faults
pub mod Live
pub mod Options
