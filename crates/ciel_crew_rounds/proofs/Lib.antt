pub mod SeatSteps
pub mod Gates
pub mod RoundsSeen
pub mod Opened
