pub mod RefSlots
pub mod Takes
pub mod Tells
pub mod Withs
pub mod Lowered
