pub use Rattle.sky_base_scope.specs.RunView
pub use Rattle.sky_base_scope.specs.Plain
pub use Rattle.sky_base_scope.specs.FunPlace
pub mod Numbers
pub mod Parts
pub mod Shapes
