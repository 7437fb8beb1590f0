pub mod Code
pub mod Filled
