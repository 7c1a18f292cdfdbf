pub mod Comes
pub mod Standing
