pub mod Cut
mod Chosen
mod Kept
mod Never
mod Whole
mod Fits
mod Views
mod Ends
pub mod Refusals
