pub mod Head
pub mod Told
pub mod View
