pub use Rattle.sky_base_law.specs.Tasks
pub mod Text
pub mod Read
pub mod Around
pub mod Laws
