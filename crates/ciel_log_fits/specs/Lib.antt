pub mod Calls
pub mod Given
pub mod Known
pub mod Named
pub mod Read
pub mod Stacks
pub mod Whole
