pub mod Splits
pub mod Gives
pub mod TermTrees
pub mod Rules
pub mod Parts
pub mod Decided
