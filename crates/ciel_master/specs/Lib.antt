pub mod Views
pub mod Refusals
pub mod Taking
pub mod Marked
pub mod Fitting
pub mod Orders
pub mod Seen
