pub mod Belows
pub mod EquationLines
pub mod Examples
pub mod GeneratorLines
pub mod Groups
pub mod Numbers
pub mod Plans
pub mod Typed
