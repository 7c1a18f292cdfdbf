mod DrawerLaw
pub mod Joined
mod Limits
pub mod RowsLaw
mod Taken
