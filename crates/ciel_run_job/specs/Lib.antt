pub use Rattle.ciel_run_drive.specs.Ends
pub use Rattle.ciel_run_drive.specs.Ended
pub use Rattle.ciel_crew_channels.specs.Onward
pub use Rattle.ciel_crew_choice.specs.Kinds
pub mod Opened
pub mod Told
