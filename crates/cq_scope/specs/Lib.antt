pub mod Firsts
pub mod Renumbered
