pub use Rattle.ciel_master_safe.proofs.TurnsLemmas
pub mod ToldTasks
