mod Kept
mod Filed
mod Gives
mod Counting
mod Pushed
mod Complete
mod Judging
mod Answered
pub mod OneTranscript
mod Made
mod Asking
pub mod Stopping
pub mod Running
