pub mod Plan
pub mod Widths
pub mod Lengths
pub mod IsLazy
