pub mod Status
pub mod Message
pub mod Summary
pub mod Text
