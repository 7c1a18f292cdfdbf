pub use Rattle.ciel_task_crew.proofs.ToldTasks
