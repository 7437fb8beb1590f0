mod Seen
mod Appended
