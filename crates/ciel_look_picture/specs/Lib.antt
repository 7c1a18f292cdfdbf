pub mod Nodes
pub mod Titles
