pub mod Plain
pub mod Crossing
