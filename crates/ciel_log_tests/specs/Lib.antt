pub mod Deaf
pub mod Small
