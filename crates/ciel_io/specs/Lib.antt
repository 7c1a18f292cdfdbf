pub mod Faults
pub mod HeldBytes
pub mod HeldFiles
pub mod HeldKeep
pub mod Kept
pub mod Reads
pub mod Rows
pub mod Tells
