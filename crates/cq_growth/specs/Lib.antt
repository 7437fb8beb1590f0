pub mod Levels
pub mod News
pub mod Repeats
pub mod Counts
pub mod GreatestOf
pub mod Limits
