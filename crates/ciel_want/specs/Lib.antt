pub mod Search
pub mod Waited
pub mod Marked
pub mod Board
pub mod History
pub mod Followers
