pub mod Place
pub mod Bytes
pub mod Tokens
pub mod Front
pub mod Spans
