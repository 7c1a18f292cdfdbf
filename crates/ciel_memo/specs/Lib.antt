pub mod Right
pub mod Gives
pub mod Counts
pub mod Seen
pub mod Laws
