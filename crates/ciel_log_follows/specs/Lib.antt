pub mod Begins
pub mod Keeping
pub mod Follows
