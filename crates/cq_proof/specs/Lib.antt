pub mod Answers
pub mod Drafts
pub mod Counting
pub mod Written
pub mod Searching
