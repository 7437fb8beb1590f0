pub mod Terms
pub mod Parts
pub mod Expressions
pub mod LeftOut
pub mod MoveForms
pub mod Grammar
pub mod Program
