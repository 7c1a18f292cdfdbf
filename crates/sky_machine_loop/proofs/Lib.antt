pub use Rattle.sky_machine_calls.proofs.Begun
pub mod Ends
pub mod Stopped
pub mod Steps
pub mod Begins
pub mod Passes
pub mod Starts
pub mod Work
