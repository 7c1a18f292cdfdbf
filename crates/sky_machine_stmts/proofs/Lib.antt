pub mod Turns
pub mod Blocks
pub mod Choices
pub mod Changes
pub mod Quick
