pub mod Sets
pub mod Calls
pub mod Circles
pub mod Learned
pub mod Outputs
pub mod Places
pub mod ReadReports
