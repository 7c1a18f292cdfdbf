pub mod Object
pub mod Names
pub mod Texts
pub mod Spelled
pub mod Bodies
pub mod Laws
pub mod Descs
