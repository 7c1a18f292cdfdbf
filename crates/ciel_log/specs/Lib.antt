pub mod Logging
pub mod Logs
pub mod Reading
