pub mod Seen
pub mod Fits
pub mod Changed
pub mod Reading
pub mod Following
