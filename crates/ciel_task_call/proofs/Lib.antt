pub mod TaskStart
pub mod ResumeStates
pub mod NameClashes
pub mod SpawnedNames
pub mod ReportTruth
pub mod ReportPlaces
pub mod FinderRuns
pub mod RunOutcome
pub mod CallVariables
pub mod ReportFit
pub mod OrderPerformed
mod ReportSafety
pub use Rattle.sky_machine_through.proofs.Knows
pub use Rattle.sky_machine_through.proofs.AskedLemmas
pub mod Walks
pub mod Says
pub mod CopySteps
pub mod FoundInputs
