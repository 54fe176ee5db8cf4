pub mod FrameNames
pub mod Fronts
pub mod Joined
pub mod Pieces
pub mod SpelledRows
pub mod StackOrder
pub mod StackTexts
