pub mod Lying
pub mod Putting
