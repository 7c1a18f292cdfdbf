pub use Rattle.sky_machine_parts.specs.Made
pub mod Stops
pub mod Laws
