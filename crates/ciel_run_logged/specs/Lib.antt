pub use Rattle.ciel_run_job.specs.Ends
pub use Rattle.ciel_run_job.specs.Kinds
pub use Rattle.ciel_run_job.specs.Onward
pub use Rattle.ciel_run_job.specs.Told
pub use Rattle.ciel_run_job.specs.Ended
pub mod Keeping
