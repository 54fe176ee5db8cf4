pub mod Books
pub mod Changes
pub mod Equality
pub mod Ledgers
pub mod Operations
pub mod Receipts
pub mod Runs
