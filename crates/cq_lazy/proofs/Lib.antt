pub mod Counts
pub mod Lengthening
pub mod Short
pub mod Widening
