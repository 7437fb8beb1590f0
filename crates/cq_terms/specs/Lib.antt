pub mod ValueTerms
pub mod Generators
