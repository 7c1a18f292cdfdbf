pub mod Bytes
pub mod FrozenCode
pub mod Codes
pub mod Spelled
