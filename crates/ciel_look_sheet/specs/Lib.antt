pub mod Drawn
pub mod Labels
pub mod Picture
pub mod Titles
