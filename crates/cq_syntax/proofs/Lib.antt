pub mod Decides
pub mod OneProgram
