mod Appended
pub mod Counts
pub mod QueryCounts
