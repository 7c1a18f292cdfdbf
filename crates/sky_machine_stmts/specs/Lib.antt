pub mod Returns
pub mod AtOnce
pub mod Turned
