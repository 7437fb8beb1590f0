pub mod Adds
pub mod Cells
pub mod Examples
pub mod FileLists
pub mod Written
