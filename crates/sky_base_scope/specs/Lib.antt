pub mod Plain
pub mod RunView
pub mod StateCode
pub mod FunPlace
