pub mod Lists
pub mod ByName
pub mod Index
pub mod Waits
pub mod Keeps
pub mod Partly
