pub mod Waits
pub mod Answers
pub mod Laws
pub mod Taken
pub mod RestsLaws
pub mod Sounds
pub mod RefitsLaws
