pub mod RunEnds
pub mod PlainLaw
