pub mod FoldedText
pub mod LineSums
pub mod TextRows
pub mod TextSums
