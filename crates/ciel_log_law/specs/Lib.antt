pub use Rattle.ciel_log.specs.declared.state.LogState
pub use Rattle.ciel_log.specs.Logs
pub use Rattle.ciel_log.specs.Logging
pub use Rattle.ciel_run_drive.specs.RunEnd
pub use Rattle.ciel_run_drive.specs.Views
pub use Rattle.ciel_run_drive.specs.Seen
pub use Rattle.ciel_run_drive.specs.Moved
pub use Rattle.ciel_run_drive.specs.Working
pub use Rattle.ciel_run_drive.specs.Told as RunDriveTold
pub use Rattle.ciel_run_drive.specs.Kept
pub use Rattle.ciel_run_drive.specs.Ended
pub mod Told
