pub mod Ask
pub mod Line
pub mod Reads
pub mod Spaced
