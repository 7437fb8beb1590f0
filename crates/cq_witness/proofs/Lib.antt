pub mod Told
pub mod Meant
pub mod Naming
pub mod Kept
