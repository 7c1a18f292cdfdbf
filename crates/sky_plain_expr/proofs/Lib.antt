pub mod Weights
pub mod RunRules
pub mod Flow
