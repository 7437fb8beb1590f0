pub mod Built
pub mod Readable
pub mod Reading
