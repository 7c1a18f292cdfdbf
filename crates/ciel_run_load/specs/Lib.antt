pub mod Line
pub mod Found
pub mod Reading
pub mod Syntax
pub mod Loading
pub mod Generated
pub mod Lines
