pub mod Heads
pub mod Tellings
pub mod Refusals
pub mod Stands
