pub mod Asked
pub mod Underivable
