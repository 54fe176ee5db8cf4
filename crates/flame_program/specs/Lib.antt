pub mod Outcomes
pub mod Parts
pub mod Process
pub mod Program
pub mod Requests
