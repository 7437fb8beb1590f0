pub mod Sides
pub mod Right
pub mod Premises
