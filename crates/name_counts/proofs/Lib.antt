pub mod NumberedRows
pub mod TallyLaws
pub mod TextNumbers
pub mod Weighted
pub mod Steps
