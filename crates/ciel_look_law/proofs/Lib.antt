pub mod Bytes
pub mod Stands
pub mod Left
pub mod Happened
pub mod Found
pub mod Whole
pub mod Header
pub mod Names
