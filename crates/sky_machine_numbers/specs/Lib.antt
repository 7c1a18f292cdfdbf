pub mod Filled
pub mod Listed
pub mod Standing
pub mod Tabled
