pub use Rattle.ciel_task_crew.proofs.TurnsLemmas
pub use Rattle.ciel_master_law.proofs.ShopLaws
pub mod Slots
pub mod ToldLemmas
pub mod Names
pub mod Turns
mod Reports
mod Over
mod Modest
mod MovedLemmas
