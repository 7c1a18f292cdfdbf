pub mod Recorded
pub mod View
pub mod Bodies
pub mod File
pub mod Laws
