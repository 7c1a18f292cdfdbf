pub mod CrewSteps
pub mod ThreadSafety
pub mod Gathered
pub mod Opened
