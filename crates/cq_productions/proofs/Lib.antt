mod Loops
mod Alternatives
mod Links
mod Items
mod Raws
