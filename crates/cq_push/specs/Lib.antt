pub mod Sorted
pub mod Ways
