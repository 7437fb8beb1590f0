mod Parsing
mod Endings
