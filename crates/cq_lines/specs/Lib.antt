pub mod Lines
pub mod Stands
pub mod Walks
pub mod Quotes
