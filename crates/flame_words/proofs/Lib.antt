pub mod CommandLine
pub mod OptionTexts
