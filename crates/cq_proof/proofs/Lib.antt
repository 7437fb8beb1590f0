pub mod Digits
pub mod Ends
pub mod Explaining
pub mod RightLists
pub mod Passing
pub mod Writing
