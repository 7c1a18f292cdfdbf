pub use Rattle.ciel_task_order.specs.Shop
pub use Rattle.ciel_task.specs.Crews
pub use Rattle.ciel_task.specs.Seen
pub use Rattle.ciel_task.specs.Onward
pub mod Crewed
