pub mod ShiftedSorts
pub mod Beside
pub mod Presented
pub mod Limits
pub mod Glued
pub mod TwoWays
