pub mod Explanation
pub mod Question
pub mod Explained
