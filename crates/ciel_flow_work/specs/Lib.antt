pub use Rattle.ciel_crew_work.specs.Crewed
pub use Rattle.ciel_crew_work.specs.Onward
pub use Rattle.ciel_crew_work.specs.Shop
pub use Rattle.ciel_crew_work.specs.Seen
pub use Rattle.ciel_crew_work.specs.Crews
pub mod Ahead
pub mod Flowing
