mod Left
pub mod LogAt
pub mod RunAt
mod Learned
pub mod Told
pub mod Waits
pub mod Objects
pub mod Closes
mod Ended
mod Stopped
pub mod Steps
pub mod Reported
pub mod Taken
pub mod Replayed
