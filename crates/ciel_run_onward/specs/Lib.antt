pub mod Gates
pub mod Onward
pub mod Open
