pub mod Blocks
pub mod Given
pub mod Index
pub mod Making
pub mod Assigned
