pub mod Texts
mod Sided
mod Meant
mod Asked
mod Explaining
