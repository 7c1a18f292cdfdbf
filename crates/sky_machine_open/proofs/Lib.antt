pub mod Walks
pub mod Places
pub mod LastSigns
pub mod Lists
pub mod BlockSteps
