pub use Rattle.ciel_log_follows.specs.Begins as LogBegins
pub use Rattle.ciel_log_file.specs.Whole as LogFileWhole
pub use Rattle.ciel_run_logged.specs.Keeping as RunLoggedKeeping
pub mod Keeping
pub mod Resuming
