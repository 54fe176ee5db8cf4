pub mod Audited
pub mod Lists
pub mod Turns
