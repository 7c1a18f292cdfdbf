pub mod Ran
pub mod Named
mod Written
pub mod Comes
mod ShortHeader
pub mod Own
pub mod Last
mod Onward
mod Began
mod Refused
mod Shared
mod Recalled
