mod Lists
mod Steps
pub mod MarkedLosses
mod Stays
mod Kept
