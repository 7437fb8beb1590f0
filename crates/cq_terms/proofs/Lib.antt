pub mod Naming
pub mod Sameness
