pub use Rattle.ciel_task_crew.specs.Seen
pub use Rattle.ciel_task_crew.specs.Crews
pub use Rattle.ciel_task_call.specs.Onward
pub mod Told
