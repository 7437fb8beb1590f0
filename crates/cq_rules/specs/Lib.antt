pub mod Outcome
pub mod Relations
pub mod Class
pub mod Words
pub mod Tree
pub mod Rule
pub mod Refused
