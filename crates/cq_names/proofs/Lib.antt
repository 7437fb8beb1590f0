pub mod Ranks
pub mod Walked
pub mod Expanding
pub mod NumberedNames
pub mod RowMembers
pub mod Spreads
pub mod GroupedNames
pub mod NamedRows
