pub mod Applied
pub mod Ahead
pub mod AtOnce
