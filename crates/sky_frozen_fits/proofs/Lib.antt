pub mod Walks
pub mod Signs
pub mod Blocks
pub mod Together
