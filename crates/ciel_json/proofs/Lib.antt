pub use Rattle.sky_base_law.proofs.Lists
mod Nested
mod Given
mod Taken
pub mod ReadLaw
pub mod LowLaw
