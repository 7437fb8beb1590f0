mod Splits
mod Starting
mod Saying
mod Telling
mod Placing
mod Ids
