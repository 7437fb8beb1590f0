pub mod Return
pub mod WrittenTerms
pub mod Literals
pub mod Writable
pub mod Accepted
