pub mod Walking
pub mod Marks
pub mod Counting
pub mod Opening
