pub mod Ended
pub mod Found
pub mod Parts
pub mod Puts
pub mod Refused
pub mod Takes
