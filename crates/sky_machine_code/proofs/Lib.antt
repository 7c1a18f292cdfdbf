pub mod Bodies
pub mod BlockParts
