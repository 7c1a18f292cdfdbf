pub mod Restores
pub mod ReadyLaw
pub mod Walk
pub mod KeptCounts
pub mod Fewer
