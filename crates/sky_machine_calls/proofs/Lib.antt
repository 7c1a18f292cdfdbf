pub mod Rooms
pub mod Begun
