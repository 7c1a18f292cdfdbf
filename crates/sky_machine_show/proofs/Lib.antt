pub mod Nexts
pub mod Places
pub mod Stage
