pub mod Composite
pub mod MappingQuery
pub mod Frame
pub mod Counting
pub mod Sizes
