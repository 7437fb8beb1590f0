pub mod Lines
pub mod Moves
pub mod Meanings
pub mod Routes
pub mod Environment
