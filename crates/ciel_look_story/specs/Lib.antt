pub mod Story
pub mod Inside
pub mod Refusal
