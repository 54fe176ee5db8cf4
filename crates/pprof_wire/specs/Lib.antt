pub mod Varints
pub mod Windows
pub mod Fields
pub mod SpelledLists
