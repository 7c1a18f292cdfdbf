pub mod Line
pub mod Ends
pub mod View
pub mod Told
