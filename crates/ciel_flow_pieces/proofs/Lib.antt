pub mod Pieces
pub mod Leaving
pub mod Early
pub mod Leading
pub mod Whole
pub mod AtHand
