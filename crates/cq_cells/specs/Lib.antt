pub mod Found
pub mod Index
pub mod Passes
pub mod Readings
pub mod Shown
