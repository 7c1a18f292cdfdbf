pub mod Told
pub mod Items
pub mod Pieces
pub mod Forms
