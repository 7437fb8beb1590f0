pub mod Normal
pub mod Pulled
pub mod Tests
pub mod MadeColumns
pub mod MovedPresentations
