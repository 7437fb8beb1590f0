pub mod Conflict
pub mod Told
pub mod Text
pub mod Notes
pub mod Telling
