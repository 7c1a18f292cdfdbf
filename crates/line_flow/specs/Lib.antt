pub mod Told
pub mod Drained
pub mod Refused
pub mod Entries
pub mod Kept
pub mod Stands
