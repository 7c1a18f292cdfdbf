pub mod Refused
pub mod Replays
pub mod Sending
pub mod Whole
