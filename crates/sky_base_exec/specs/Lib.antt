pub mod Outputs
pub mod Perform
pub mod Puts
pub mod Laws
