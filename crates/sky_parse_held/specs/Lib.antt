pub mod Held
pub mod Params
