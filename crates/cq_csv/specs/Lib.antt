pub mod Files
pub mod Records
