pub mod Drawing
pub mod Titles
