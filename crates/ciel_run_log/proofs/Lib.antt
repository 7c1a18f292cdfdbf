mod Parts
pub mod Puts
mod Cuts
