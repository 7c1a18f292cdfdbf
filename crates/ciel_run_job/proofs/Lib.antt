pub mod Began
pub mod Lent
