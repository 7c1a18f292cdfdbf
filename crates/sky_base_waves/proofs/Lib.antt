pub mod Fills
pub mod Turns
pub mod Lowered
pub mod Sounds
