pub mod Gathering
pub mod Scoping
pub mod Repeats
pub mod Indexing
pub mod Blocking
pub mod Assigning
