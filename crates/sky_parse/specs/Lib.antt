pub mod Statements
pub mod Scripts
pub mod Parsed
pub mod Source
