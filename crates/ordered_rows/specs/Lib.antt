pub mod OrderedRows
pub mod SpelledRows
pub mod StackFrames
pub mod StackOrder
