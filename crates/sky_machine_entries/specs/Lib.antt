pub mod Entries
pub mod Ready
pub mod Config
pub mod Falls
