pub mod Derivable
pub mod Arguments
pub mod Deciding
