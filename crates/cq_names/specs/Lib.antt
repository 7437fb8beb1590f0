pub mod Closed
pub mod LeastNames
pub mod Walking
pub mod RowNumbers
pub mod Ranks
pub mod NamedRows
