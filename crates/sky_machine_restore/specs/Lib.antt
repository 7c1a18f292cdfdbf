pub mod Restoring
pub mod Few
pub mod Kept
