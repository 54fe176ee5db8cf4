pub mod Counting
pub mod EntryLaws
pub mod LedgerLaws
pub mod Readiness
