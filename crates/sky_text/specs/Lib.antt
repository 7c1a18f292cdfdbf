pub mod Place
pub mod Words
pub mod Lexing
pub mod Spelling
pub mod Parts
