pub mod Entries
pub mod File
pub mod Refused
pub mod Ordered
pub mod Laws
pub mod Steps
pub mod Added
