pub mod Cells
pub mod Records
