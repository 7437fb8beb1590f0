pub mod Phrases
pub mod Paths
pub mod Depth
pub mod Rows
pub mod Sides
pub mod Images
pub mod Broken
