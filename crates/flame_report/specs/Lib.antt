pub mod Answers
pub mod Equality
pub mod First
pub mod Json
pub mod Labels
pub mod Sharing
pub mod Tokens
