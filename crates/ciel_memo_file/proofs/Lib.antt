pub mod Spelling
pub mod Files
mod Ends
mod Windows
mod Places
pub mod Keys
mod Finding
mod Added
pub mod Crossing
