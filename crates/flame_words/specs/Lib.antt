pub mod LiveOptions
pub mod Options
pub mod Words
