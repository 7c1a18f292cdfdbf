pub mod Named
pub mod Seen
pub mod Learning
pub mod Changes
pub mod Sound
pub mod Inside
