pub mod Parts
pub mod Few
