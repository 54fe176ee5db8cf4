pub mod VarintLaws
pub mod FieldLaws
pub mod ShortestVarints
pub mod SpelledLists
pub mod ListLaws
pub mod EachList
pub mod Steps
