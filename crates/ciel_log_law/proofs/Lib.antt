pub mod Files
mod Pieces
mod Calls
mod Reported
mod Thrown
mod Runs
mod Joined
mod Written
