pub mod Stops
pub mod Ran
