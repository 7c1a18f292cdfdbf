pub mod Built
pub mod Reads
pub mod Runs
pub mod Bodies
pub mod Begun
