pub mod LaneSteps
pub mod Hints
pub mod Begins
pub mod Standing
pub mod Opening
pub mod ThreadSafety
