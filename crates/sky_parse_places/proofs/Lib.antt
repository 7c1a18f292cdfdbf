pub mod Runs
pub mod Seen
pub mod Trees
pub mod Tokens
pub mod Faults
