pub use Rattle.ciel_log_law.proofs.Files
pub mod KeepingLaw
mod WrittenLaw
