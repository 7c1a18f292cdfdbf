pub mod Accepts
pub mod Comes
pub mod Ends
pub mod Tests
