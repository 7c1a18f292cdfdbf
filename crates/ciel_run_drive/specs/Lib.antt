pub use Rattle.ciel_task_crew.specs.Turns
pub use Rattle.ciel_task_crew.specs.Seen as TaskCrewSeen
pub use Rattle.ciel_task_crew.specs.Crews
pub use Rattle.ciel_master.specs.declared.plan.RunPlan
pub use Rattle.ciel_master.specs.declared.stop.RunEnd
pub use Rattle.ciel_master.specs.Views
pub use Rattle.ciel_master_law.specs.Ends
pub use Rattle.ciel_master.specs.Taking
pub use Rattle.ciel_master.specs.Seen
pub mod Kept
pub mod Ended
pub mod Told
pub mod Working
pub mod Telling
pub mod Moved
