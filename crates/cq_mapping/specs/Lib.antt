pub mod MappingData
pub mod Images
pub mod Mapping
pub mod MappingParts
pub mod Duties
pub mod Moved
pub mod Symbols
