mod Places
mod Added
pub mod Over
