pub mod Pieces
pub mod Ends
pub mod Records
pub mod Files
pub mod Sizes
pub mod Reports
