pub mod Grouped
pub mod Literal
pub mod Spelling
pub mod Transcript
