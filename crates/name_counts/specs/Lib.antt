pub mod KnownNames
pub mod NumberedRows
pub mod Tallies
pub mod TextTables
