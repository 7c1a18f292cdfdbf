pub mod Inputs
pub mod Parts
pub mod Values
pub mod Line
pub mod Command
pub mod Raw
pub mod Sound
