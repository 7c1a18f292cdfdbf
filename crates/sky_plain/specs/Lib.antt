pub mod Needs
pub mod Stand
pub mod Stage
pub mod Settle
pub mod Whole
